-- 64 flows over one pair of tables, each with its own PIE (docs/SHARED-TABLES.md, 25 to 29).
--
--   Answer      what a call answers and returns
--   Refusals    29: the test of each refusal number
--   Arrival     25: a packet arrives
--   Departure   26, 27: the packet that is served next leaves
--   Tick        28: one tick for all flows
pub mod Answer
pub mod Refusals
pub mod Arrival
pub mod Departure
pub mod Tick
