-- The words of a state hold that state.
use Rattle.ring_words.proofs.Words.{back, five-counts, words_long}
use Rattle.ring_c_guarantees.specs.Decoding.{Decoding}

pub decoding : Decoding
decoding = record { decodes = back; five = five-counts; twenty-three = words_long }
