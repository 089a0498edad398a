-- The records of two queues as words, and the words after a call.
pub mod Words
pub mod After
