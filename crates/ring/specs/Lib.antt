-- The ring queue of document 01: its state, its refusals and its four calls.
pub mod Activity
pub mod State
pub mod Answer
pub mod Refusals
pub mod Fresh
pub mod Arrival
pub mod Departure
pub mod Tick
pub mod Calls
