-- The transfer duration's answer.
pub mod Durations
