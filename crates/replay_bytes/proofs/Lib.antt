-- Laws of parts of lists.
pub mod PartLaws
