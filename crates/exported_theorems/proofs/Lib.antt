-- The proofs of the statements.
pub mod Asked
pub mod Exported
