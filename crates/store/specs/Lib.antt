-- Slots of two tables, linked into chains of packets (docs/SHARED-TABLES.md, sections 1 and 2).
--
--   Words       1: a size and a link in one word
--   Fresh       4: no slot was taken
--   Following   5, 6: which links are read, and which are refused
--   Put         7: a packet enters a chain at its tail
--   Take        8, 9: a packet leaves a chain from its head
pub mod Words
pub mod Fresh
pub mod Following
pub mod Put
pub mod Take
