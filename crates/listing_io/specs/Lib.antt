-- What is promised of an input that was listed.
pub mod ShownInput
