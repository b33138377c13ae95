-- Laws of the cases of a sample.
pub mod SampleLaws
