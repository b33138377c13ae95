-- The questions' answers by their tests; a quotient's bits by its digits.
pub mod Laws
pub mod Quotients
