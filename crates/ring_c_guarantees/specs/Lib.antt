-- What holds of every list of C calls: the theorems of crate ring_guarantees, over the words that the firmware holds and the numbers that it
-- gets. Each claim stands in a file of its own; proofs/ proves it.
--
--   Decoding           the words of a state hold that state
--   TracesJoined       each call given the words that the last one left: numbers, packets and words are those of the trace over states
--   RunsJoined         with words and tables handed back from a fresh record: words, tables, numbers and packets are those of the run
--   CRecovery          demand 3 and question 4, in words and numbers
--   CRecoveryByTarget  the same by the target (Q-13)
--   CGrace             question 2
--   CFirstInFirstOut   demand 2 over lists of calls
--   CConservation      question 3
pub mod Fields
pub mod MoreFields
pub mod CCalls
pub mod CHanded
pub mod Decoding
pub mod TracesJoined
pub mod RunsJoined
pub mod CRefusals
pub mod CWhichVerdict
pub mod CAllowanceLasts
pub mod CGrace
pub mod CRecovery
pub mod CRecoveryByTarget
pub mod CFirstInFirstOut
pub mod CConservation
pub mod CSpacing
pub mod CEarlyAtLeastApart
pub mod CEarlyAtMostApart
