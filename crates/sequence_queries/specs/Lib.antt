-- The rows of the STCs.
pub mod Rows
