-- The output lines of a script.
pub mod Output
