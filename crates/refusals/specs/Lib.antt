-- The refusals (document 01, 'Refusal numbers'): their numbers, which one is given, the tests that ask for no more than a backlog; and what
-- a call answers.
pub mod Numbers
pub mod Rows
pub mod Tests
pub mod Answer
pub mod Codes
