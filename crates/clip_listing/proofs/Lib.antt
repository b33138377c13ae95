-- What the listing's text is, by what reading answered.
pub mod Laws
