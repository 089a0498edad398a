-- Laws about the records and the calls of two queues, for the functions' proofs and for the theorems over lists of calls.
pub mod AllOf
pub mod Facts
pub mod Symmetry
pub mod FreshFormed
pub mod Seen
pub mod Replies
pub mod WhenAccepted
pub mod Kept
