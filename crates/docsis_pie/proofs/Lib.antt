-- What the functions' proofs share, and laws that other crates may cite.
pub mod Sizes
pub mod Ranges
pub mod Phases
pub mod NeverEarly
pub mod Kept
