-- What the functions of this crate want and answer.
pub mod Cpi
