-- The calls answer alike from the old file and the new.
pub mod Readings
pub mod Calls
pub mod Held
pub mod Alike
