-- A kind of burst: calls as numbers, answers as words.
use Rattle.std.specs.Prelude.{List, ℕ}
use Rattle.calls.specs.Kind.{Kind}

pub record BurstKind : Type 1 where
  -- what the caller lends is the state: each call is answered, and leaves it, as the single entry does
  pub kind : Kind
  -- an answer as a word
  pub word : kind.Answer → ℕ
  -- how many numbers a call has
  pub numbers : ℕ
  -- the call whose numbers begin at this place
  pub call_at : (calls : List ℕ) (at : ℕ) → kind.Call
