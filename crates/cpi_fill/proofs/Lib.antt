-- Laws of both tables while the maps are gone through.
pub mod Filling
