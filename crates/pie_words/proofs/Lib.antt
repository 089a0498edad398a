-- What the functions' proofs share.
--
--   Flags    what a flag's word says
--   Writing  the departure rate, written word by word
pub mod Flags
pub mod Writing
