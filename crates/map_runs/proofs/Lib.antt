-- Laws that the proofs of this crate cite.
pub mod Entries
pub mod Turns
pub mod Bodies
