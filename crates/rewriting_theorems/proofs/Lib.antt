-- The calls that read and write keep what demand 3 says.
pub mod Promises
pub mod Asked
pub mod NewFile
pub mod Rewriting
pub mod OneGo
