-- The choice of the primary map.
pub mod PrimaryMap
