-- What the proofs of the calls share.
pub mod Checks
pub mod Replies
pub mod Words
pub mod Decisions
