-- Demand 3 for the calls that C makes.
pub mod Asked
pub mod Exported
