-- Laws of the times at the two ends of a map.
pub mod Lasts
