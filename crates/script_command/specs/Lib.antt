-- The commands of the ring queue's script: the table of their forms, and a line read by it (document 01, 'A script program').
pub mod Forms
pub mod Line
pub mod Reader
pub mod Incremental
