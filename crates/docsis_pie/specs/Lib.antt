-- DOCSIS-PIE (RFC 8034, Appendix A) as docs/DOCSIS-PIE.md words it, on numbers alone: no tables, no clock check, no refusals.
pub mod Constants
pub mod DropDecision
pub mod Delay
pub mod Probability
pub mod Update
pub mod Examples
