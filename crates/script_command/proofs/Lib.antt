-- What the proofs share.
pub mod Reading
