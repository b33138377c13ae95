-- Rows by their kind.
pub mod Kinds
