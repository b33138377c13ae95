-- What the functions of this crate want.
pub mod Cpi
