-- The laws that the functions' proofs, and those of callers, cite.
pub mod Puts
