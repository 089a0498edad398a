-- What the proofs of the calls on words share.
pub mod Counts
