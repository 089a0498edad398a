-- What the functions' proofs share.
pub mod Kept
pub mod Steps
pub mod Formed
pub mod Readiness
pub mod Refused
pub mod Both
