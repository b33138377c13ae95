-- Laws of the search for two ids.
pub mod Search
