-- Two logs compared, what the longer has left, and what a C caller gets of it.
pub mod Compare
pub mod Values
pub mod Remaining
pub mod Codes
