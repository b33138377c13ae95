-- Laws of the loops over the ATCs, and over the STCs of one.
pub mod Atcs
