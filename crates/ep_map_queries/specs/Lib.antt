-- The entries of one map, and what is asked about them.
pub mod InMap
pub mod Rows
