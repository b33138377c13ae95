-- Laws that callers cite.
pub mod Laws
