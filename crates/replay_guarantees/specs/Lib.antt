-- What holds of every replay. Each claim stands in a file of its own; proofs/ proves it.
--
--   ExactlyIf        accepted exactly if the rules give each record; otherwise the first that disagrees, and its first field
--   AnyTables        what the lent tables hold beforehand does not matter, of any log
--   WhichRefusals    a recorded call that the rules refuse is refused by 4, 5 or 6
--   AlwaysAccepted   a log that the writer made of a fresh queue's accepted calls is accepted, whatever the lent tables held
--
-- That the library's replay gives these answers and tables is promised by the function itself (crate replay).
pub mod Recorded
pub mod ExactlyIf
pub mod EachAnswer
pub mod AnyLog
pub mod LowestFirst
pub mod AnyTables
pub mod WhichRefusals
pub mod AlwaysAccepted
pub mod AnyRoom
