-- What the functions' proofs share, and laws that other crates may cite.
pub mod Facts
pub mod WhenAccepted
pub mod Replies
pub mod Admitted
pub mod Kept
