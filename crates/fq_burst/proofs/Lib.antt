-- What a call of a burst answers and leaves.
--
--   Malformed  on a record that is not well formed every call is refused
--   Left       a record stays sound, and the tables keep their lengths
--   Steps      what the words of an answer need, and what a tick leaves
pub mod Malformed
pub mod Left
pub mod Steps
