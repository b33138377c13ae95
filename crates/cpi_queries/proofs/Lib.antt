-- Laws of the choice of the primary map.
pub mod Choice
