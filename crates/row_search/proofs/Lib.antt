-- Laws of the first row that passes a test.
pub mod FirstRow
