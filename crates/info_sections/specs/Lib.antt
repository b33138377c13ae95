-- What the functions of this crate promise and ask.
pub mod Sections
