-- The proofs of the claims in specs/, each in the file of its name, and what they share.
pub mod Same
pub mod Records
pub mod ExactlyIf
pub mod SameBytes
pub mod HandedBack
pub mod CHandedBack
pub mod LowestFirst
