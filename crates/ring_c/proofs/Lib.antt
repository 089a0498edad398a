-- What the entries' proofs share.
pub mod Replies
