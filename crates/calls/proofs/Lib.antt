-- The proofs of the claims in specs/, each in the file of its name, and what they share.
pub mod Traces
pub mod Parts
pub mod Packets
pub mod Ring
pub mod RunKept
pub mod FirstInFirstOut
pub mod Conservation
