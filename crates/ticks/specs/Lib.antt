-- The code's times as the definitions' times.
pub mod Times
