-- Laws of the record of 64 flows.
--
--   Facts   what the numbers of well-formed records are
--   Spare   used slots that hold no packet
pub mod Facts
pub mod Spare
