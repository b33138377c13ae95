-- What the functions of this crate promise.
pub mod Lists
pub mod Prepare
