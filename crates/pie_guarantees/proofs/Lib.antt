-- The proofs of the claims in specs/, each in the file of its name, and what they share.
pub mod Says
pub mod WhichVerdict
pub mod IdleStep
pub mod AtTold
pub mod NoProfile
pub mod AllowanceLasts
pub mod Fall
pub mod Bound
pub mod Fading
pub mod Tallies
pub mod Recovery
pub mod TicksToRecover
pub mod RecoveryByTarget
pub mod ShorterRecovery
pub mod Spacing
pub mod MeasuredWhileQueued
pub mod NeverGivenUp
