-- What the functions of this crate promise.
pub mod Fill
pub mod Read
