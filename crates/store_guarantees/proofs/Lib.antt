-- The proofs of the claims in specs/, and what they share.
pub mod Lists
pub mod Walks
pub mod Packets
pub mod Claims
pub mod Puts
pub mod Takes
pub mod Fresh
pub mod AsLists
pub mod NeverLost
pub mod FirstInFirstOut
pub mod Alone
pub mod Example
