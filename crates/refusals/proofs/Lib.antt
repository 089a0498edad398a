-- Laws about the refusals, for the functions' proofs and for every kind of queue.
pub mod Ordered
pub mod Fitting
