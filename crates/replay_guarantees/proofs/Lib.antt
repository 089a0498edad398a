-- The proofs of the claims in specs/, each in the file of its name, and what they share.
pub mod SameCalls
pub mod Agrees
pub mod Fine
pub mod Written
pub mod ExactlyIf
pub mod EachAnswer
pub mod AnyLog
pub mod LowestFirst
pub mod AnyTables
pub mod WhichRefusals
pub mod AlwaysAccepted
pub mod FreshStart
pub mod Writes
pub mod AnyRoom
