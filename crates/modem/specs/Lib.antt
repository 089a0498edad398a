-- The sixteen service flows of a cable modem (docs/DOCSIS-PIE.md): the table of verdict counts, refusal 10, and the four calls.
pub mod Counts
pub mod Answer
pub mod Calls
pub mod Asked
