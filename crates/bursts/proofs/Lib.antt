-- A burst of any kind.
--
--   InTurn  it is the list of its calls
--   Steps   one call more, and the numbers of a list that fits
--   Answers the number of a refusal is small
pub mod InTurn
pub mod Steps
pub mod Answers
