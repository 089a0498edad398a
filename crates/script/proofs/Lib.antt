-- What the proofs share.
pub mod Computed
pub mod Lent
pub mod Replies
pub mod Stages
pub mod Turns
pub mod Cuts
pub mod Stops
