-- Laws of the loops over rows and maps, and of the tables of a record.
pub mod Walks
pub mod Clips
