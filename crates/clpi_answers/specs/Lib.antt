-- The numbers of the structs with which C is answered.
pub mod Numbers
