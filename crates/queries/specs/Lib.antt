-- What the questions' calls answer, and the tables that they are lent.
pub mod Answers
pub mod Asked
