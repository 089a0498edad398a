-- What holds of every comparison of two logs. Each claim stands in a file of its own; proofs/ proves it.
--
--   ExactlyIf    each answer is given exactly on its ground: which is refused, what differs, which one ends, equal
--   SameBytes    equal exactly if the two are the same bytes
--   HandedBack   the part that is handed back: the longer log's remaining records where they stand, else empty
--   CHandedBack  the same of the C entry, in its words
--   LowestFirst  of a bad log the lowest number that applies is given, the first log's before the second's
--
-- That the library's comparison gives these answers and parts is promised by the functions themselves (crate compare).
pub mod ExactlyIf
pub mod SameBytes
pub mod HandedBack
pub mod CHandedBack
pub mod LowestFirst
