-- The C interface of the log.
pub mod Codes
