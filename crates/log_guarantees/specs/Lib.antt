-- What holds of every log that the writer makes. Each claim stands in a file of its own; proofs/ proves it.
--
--   ReadsBack    what was accepted reads back: settings, note, the records in order, then the end
--   AlwaysWhole  after begin and after every call of add the bytes are a whole log, byte for byte
--   InTurn       any log that reads whole reads in turn, with the same settings, note and records
--   Refused      a refused call changes nothing: neither the writer's state nor its bytes, nor the reader's place
--   Reached      11 refuses exactly the states that no run reaches in bytes of that length
--
-- That a record and its 40 bytes determine each other is crate log_codec's RoundTrip.
-- That the library's calls give these replies, answers and bytes is promised by the functions themselves (crate log).
pub mod Run
pub mod InTurn
pub mod OneForm
pub mod FaultAt
pub mod ReadsBack
pub mod AlwaysWhole
pub mod LowestFirst
pub mod Refused
pub mod Reached
