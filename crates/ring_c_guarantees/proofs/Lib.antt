-- The proofs of the claims in specs/, each in the file of its name, and what they share.
pub mod Decoding
pub mod Codes
pub mod CReplies
pub mod TracesJoined
pub mod RunsJoined
pub mod CTraces
pub mod CAnswered
pub mod PlacesApart
pub mod CWhichVerdict
pub mod CAllowanceLasts
pub mod CGrace
pub mod CRecovery
pub mod CRecoveryByTarget
pub mod CFirstInFirstOut
pub mod CConservation
pub mod CRefusals
pub mod CSpacing
