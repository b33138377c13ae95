-- What the bit reader and writer answer.
pub mod Words
