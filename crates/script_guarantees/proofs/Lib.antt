-- The proofs of the claims in specs/, and what they share.
pub mod Idle
pub mod Lent
pub mod Lines
pub mod Slots
pub mod ScriptEnd
pub mod ScriptText
pub mod RunTrace
pub mod Sound
pub mod ScriptOrder
pub mod ScriptBytes
pub mod ScriptGrace
pub mod ScriptRecovery
pub mod ScriptRefusals
pub mod ScriptVerdicts
