-- Laws about the words and the counts, for the entries' proofs and the bursts'.
pub mod Changed
