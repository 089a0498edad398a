-- Deficit round robin over 64 flows (docs/SHARED-TABLES.md, 18, 20 and 23 to 27), apart from PIE and the tables.
--
--   TwoLists     18: the new and the old list of flows, and the deficits
--   Entering     25: a flow in neither list enters the new one
--   Choosing     26, 27: the flow that is served next, and what its packet takes from its deficit
--   Ring         20: how the two lists stand in one ring of 64 places
--   WellFormed   23: which lists and deficits are well formed
--   InRing       the lists that are read off the ring are those of the rules
--   Passing      what inner functions give
pub mod TwoLists
pub mod Entering
pub mod Choosing
pub mod Ring
pub mod WellFormed
pub mod InRing
pub mod Passing
