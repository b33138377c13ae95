-- Laws of the numbers of reading's answer.
pub mod Laws
