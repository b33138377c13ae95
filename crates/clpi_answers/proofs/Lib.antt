-- Laws of the numbers of a place.
pub mod Laws
