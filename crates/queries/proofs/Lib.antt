-- Laws of the tests that a question begins with.
pub mod Asking
