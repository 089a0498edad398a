-- A queue as a caller lends it, when it is ready for calls that test nothing of its record, and what their inner functions write.
pub mod Fitting
pub mod Words
