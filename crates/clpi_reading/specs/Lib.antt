-- The numbers of reading's answer.
pub mod Numbers
