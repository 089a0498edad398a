-- A flow's state as words, as the modem's C interface has them, and what a caller lends with them.
pub mod Words
pub mod Lent
