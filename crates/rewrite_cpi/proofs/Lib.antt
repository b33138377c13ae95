-- Laws that the proofs of this crate cite.
pub mod Maps
pub mod Lengths
pub mod Sections
