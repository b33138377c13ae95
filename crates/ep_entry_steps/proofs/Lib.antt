-- Laws of the lookups in a row of records.
pub mod Laws
pub mod Alike
