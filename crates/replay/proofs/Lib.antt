-- What the proofs of this crate share.
pub mod Coded
pub mod Rounds
pub mod Contained
pub mod Numbers
