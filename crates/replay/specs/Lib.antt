-- What the rules say of a log (Q-10), and what a C caller gets of it.
pub mod Agreement
pub mod Replay
pub mod Told
pub mod Replied
pub mod Found
