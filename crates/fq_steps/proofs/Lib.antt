-- What a call on a well-formed record leaves.
--
--   Mapped   a list whose first elements have been mapped
--   Noting   the flows' counts after a call
--   Stays    what a call leaves as it was
pub mod Mapped
pub mod Noting
pub mod Stays
