-- What the proofs share.
pub mod Onward
