-- The first row that passes a test.
pub mod FirstRow
