-- Laws that the proofs of this crate cite.
pub mod Heads
pub mod Sections
