-- That the entries' promises are the one definition of what a C call leaves.
pub mod Leaves
