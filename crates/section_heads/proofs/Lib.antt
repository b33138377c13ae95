-- Laws of stored fields, which the crates that store sections cite too.
pub mod Stored
