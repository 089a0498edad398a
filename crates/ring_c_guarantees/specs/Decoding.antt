-- The words of a state hold that state.
use Rattle.std.specs.Prelude.{◌≡◌, List, ℕ, length}
use Rattle.ring.specs.declared.State.{State}
use Rattle.ring_words.specs.Words.{state_of, state_words}

pub record Decoding : Type 0 where
  -- whatever words they are written over; a state of the library has five verdict counts
  pub decodes : (words : List ℕ) (s : State) → length s.verdicts ≡ 5 → state_of (state_words words s) ≡ s
  -- the state that any words hold has five
  pub five : (words : List ℕ) → length (state_of words).verdicts ≡ 5
  pub twenty-three : (words : List ℕ) (s : State) → length (state_words words s) ≡ 23
