-- Laws that the proofs of this crate, and of its callers, cite.
pub mod Parts
pub mod Groups
pub mod Lengths
