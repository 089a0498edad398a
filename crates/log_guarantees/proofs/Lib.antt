-- The theorems of specs/, proved.
pub mod AlwaysWhole
pub mod Bytes
pub mod InTurn
pub mod ReadsAt
pub mod OneForm
pub mod FaultAt
pub mod Kept
pub mod LowestFirst
pub mod Overwrites
pub mod Reached
pub mod ReadsBack
pub mod Refused
