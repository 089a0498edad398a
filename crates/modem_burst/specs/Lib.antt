-- A list of calls on one flow of a modem in one entry: what each of its numbers asks for, and what the single entries do with it.
pub mod Calls
pub mod Burst
pub mod Read
