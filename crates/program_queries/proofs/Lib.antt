-- Laws of the loops over the streams.
pub mod Laws
