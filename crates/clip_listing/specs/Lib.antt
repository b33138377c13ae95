-- The text of what reading answered.
pub mod Told
