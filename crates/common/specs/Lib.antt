-- What the functions of this crate promise.
pub mod Reader
pub mod Header
