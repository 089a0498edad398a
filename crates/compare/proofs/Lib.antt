-- Laws of the comparison.
pub mod Same
pub mod InTurn
pub mod Contents
pub mod Whole
pub mod Fits
pub mod Compares
