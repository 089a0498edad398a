-- Laws of the words.
--
--   Words       the state that the ring's words hold
--   Arrivals    the words that an arrival changes
--   Departures  the words that a departure changes
pub mod Words
pub mod Arrivals
pub mod Departures
