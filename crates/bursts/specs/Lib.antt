-- A list of calls in one entry, of any kind: a kind supplies its calls, what each answers and leaves, and how their numbers are read.
--
--   Numbers   a clock and an answer's word
--   Answers   the word of a queue's answer
--   Kind      a kind of burst
--   Burst     what the single entries do with the calls in turn
--   InTurn    a burst is the list of its calls
pub mod Numbers
pub mod Answers
pub mod Kind
pub mod Burst
pub mod InTurn
