-- Laws that the proofs of this crate, and those of callers, cite.
pub mod Walks
pub mod Bodies
pub mod Joined
