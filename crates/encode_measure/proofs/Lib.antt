-- Laws that the proofs of this crate, and of its callers, cite.
pub mod Tests
pub mod Parts
pub mod Tables
