-- What the functions' proofs share.
pub mod Fits
pub mod Flows
pub mod Kept
pub mod Steps
pub mod Within
