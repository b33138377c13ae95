-- Tables all whose rows are there, and the rows of a header row.
pub mod AllRows
pub mod OwnRows
