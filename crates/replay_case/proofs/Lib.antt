-- Laws of the answer that a file must have.
pub mod ExtensionLaws
pub mod FileLaws
