-- Demand 3's fourth part for the calls that answer questions.
pub mod Calls
pub mod Alike
