-- Laws of the log's C interface.
pub mod Answered
