-- What the proofs share.
pub mod Decimal
pub mod Joins
pub mod Places
