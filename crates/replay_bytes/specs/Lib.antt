-- Parts of a stored answer.
pub mod Parts
