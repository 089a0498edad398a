-- The ring's state as words that C lends, and an answer as a number.
--
--   Words  the ring's state as words
--   Codes  the words after a call
--   Lent   a queue as a C caller lends it, and what a call leaves
pub mod Words
pub mod Codes
pub mod Lent
