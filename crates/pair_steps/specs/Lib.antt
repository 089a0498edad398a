-- Calls on two queues over words: what they know of what they are lent, and what their inner functions write.
pub mod Lent
pub mod Written
