-- Laws of the nearest time.
pub mod Steps
