-- Laws that the proofs of this crate, and of its callers, cite.
pub mod Laws
pub mod Wide
pub mod Parts
