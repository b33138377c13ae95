-- The numbers of the structs that C is handed.
pub mod Numbers
