-- Laws about places of the ring, for the functions' proofs.
pub mod Places
