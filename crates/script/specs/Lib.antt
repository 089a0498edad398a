-- What a script means: one definition from input bytes to output bytes (document 01, 'A script program').
pub mod Lines
pub mod Answering
pub mod Script
pub mod Feeding
pub mod Done
pub mod Turn
pub mod Pieces
pub mod Example
