-- The answer that must be stored with a file, and the places in it.
pub mod Expected
pub mod Places
