-- What the functions' proofs share.
pub mod Words
pub mod Replies
pub mod Kept
pub mod Answers
pub mod Decisions
pub mod Arrivals
