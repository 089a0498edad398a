-- The log of Q-1: its layout, the faults of a record, the writer, the reader, and reading it whole.
pub mod Answers
pub mod Layout
pub mod Faults
pub mod Writer
pub mod Reader
pub mod Whole
