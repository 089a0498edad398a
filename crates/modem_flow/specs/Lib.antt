-- One service flow of a cable modem (docs/DOCSIS-PIE.md): its state, its refusals and its four calls, with its row of the verdict counts.
pub mod State
pub mod Answer
pub mod Refusals
pub mod Fresh
pub mod Arrival
pub mod Departure
pub mod Tick
