-- Laws of a row that is tested cell by cell.
pub mod Fits
