-- What the functions of this crate rely on.
pub mod Fill
