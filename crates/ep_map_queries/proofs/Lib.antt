-- Laws of the entries of one map.
pub mod Answers
