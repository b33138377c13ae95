-- What the functions of this crate promise.
pub mod Infos
pub mod Clips
