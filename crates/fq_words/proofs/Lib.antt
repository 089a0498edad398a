-- Laws of the record as words.
--
--   Words     a flow among the words is an element of the list of flows
--   AddedUp   the flows tested and added up
--   Filled    a list set to one value
--   Returned  what a call leaves in the words
--   Kept      a refused call returns the record that it was lent
pub mod Words
pub mod AddedUp
pub mod Filled
pub mod Returned
pub mod Kept
