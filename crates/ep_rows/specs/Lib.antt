-- The packed rows as the code's structs.
pub mod Rows
