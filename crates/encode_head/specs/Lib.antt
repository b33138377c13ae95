-- The fixed parts of a written file.
pub mod Heads
