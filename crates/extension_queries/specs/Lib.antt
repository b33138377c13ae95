-- The extension with two ids.
pub mod ById
