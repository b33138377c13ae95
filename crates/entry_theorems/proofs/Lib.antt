-- The proofs that both forms answer alike.
pub mod Claims
pub mod Forms
