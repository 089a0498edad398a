-- What the calls on a record that was tested ask for, and what their inner functions write.
pub mod Fitting
pub mod Words
