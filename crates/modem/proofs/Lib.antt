-- A law of the table of counts.
pub mod Rows
