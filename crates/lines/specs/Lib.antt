-- A line of a script: its words and numbers, and which command it is by a table of forms (document 01, 'A script program').
pub mod Numbers
pub mod Words
pub mod Forms
pub mod Line
pub mod Reader
pub mod Incremental
pub mod Scan
