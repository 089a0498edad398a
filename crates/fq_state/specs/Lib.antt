-- The record of 64 flows over one pair of tables (docs/SHARED-TABLES.md, 18 to 24).
--
--   Flow         18: a flow's PIE state and chain
--   State        18: the record
--   WellFormed   23: which records are well formed
--   Fresh        21: fresh
pub mod Flow
pub mod State
pub mod WellFormed
pub mod Fresh
