-- The program's loop.
pub mod Feeds
