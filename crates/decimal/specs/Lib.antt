-- The decimal digits of a number, and what it means that text was written.
pub mod Digits
pub mod Written
