-- The record of 64 flows as words, and what a C caller gets for each answer.
--
--   Words     how words are read
--   Written   the words of a record
--   Codes     an answer as a number, and the words after a call
pub mod Words
pub mod Written
pub mod Codes
