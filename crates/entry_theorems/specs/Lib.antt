-- Entry lookups on tables and on records.
pub mod Claims
pub mod Forms
