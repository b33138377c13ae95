-- The cases of a sample.
pub mod Sample
