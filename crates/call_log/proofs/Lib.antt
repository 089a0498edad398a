-- Laws about the log's definitions, for the functions' proofs and for the theorems over runs.
pub mod Choices
pub mod Contents
pub mod Facts
pub mod Records
pub mod Replies
pub mod Shape
pub mod Stores
pub mod Copied
pub mod Opened
