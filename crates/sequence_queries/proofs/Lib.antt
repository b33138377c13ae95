-- Laws of the questions about the STCs.
pub mod Laws
