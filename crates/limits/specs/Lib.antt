-- When the tables of a record fit, and the tables with the rows that are stated to be in them.
pub mod Clips
pub mod Rows
pub mod Stated
