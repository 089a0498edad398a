-- PIE's words in a record that C lends.
--
--   Flags  a flag as a word
--   Words  the algorithm's ten words, from a place on
pub mod Flags
pub mod Words
