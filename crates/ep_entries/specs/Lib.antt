-- What the functions of this crate promise.
pub mod Walks
pub mod Body
pub mod Entries
