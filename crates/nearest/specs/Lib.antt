-- The nearest of some times to the one asked for.
pub mod Nearest
