-- Laws about the queue's definitions, for the functions' proofs and for the theorems over lists of calls.
pub mod Facts
mod Tests
pub mod WhenAccepted
pub mod Replies
pub mod Admitted
pub mod Activation
pub mod Kept
