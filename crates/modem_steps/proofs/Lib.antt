-- What the functions' proofs share.
pub mod Words
pub mod Decisions
pub mod Arrivals
pub mod Replies
pub mod Entries
