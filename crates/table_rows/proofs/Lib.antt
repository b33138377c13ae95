-- Laws of a table all whose rows are there, of the rows that a loop goes over, and of a header row's rows.
pub mod AllRows
pub mod Scans
pub mod OwnRows
