-- What the proofs share.
pub mod Bytes
pub mod NoForm
pub mod Reading
pub mod LineEnds
pub mod Emptiness
pub mod Counts
