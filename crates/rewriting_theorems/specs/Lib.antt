-- Demand 3 for the calls that read and write.
pub mod Asked
pub mod Rewriting
pub mod OneGo
