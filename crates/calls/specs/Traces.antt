-- A list of calls, and its trace: each call is given the state that the last one returned.
use Rattle.std.specs.Prelude.{List, [], ◌∷◌}
use Rattle.calls.specs.Kind.{Kind}

-- one call of a list, the state that it was given, its answer, and the state that it returned
pub record Entry (k : Kind) : Type 0 where
  pub call : k.Call
  pub given : k.State
  pub answer : k.Answer
  pub returned : k.State

abbrev pub entry : (k : Kind) → k.State → k.Call → Entry k
entry k s c = record { call = c; given = s; answer = k.answer s c; returned = k.next s c }

abbrev pub trace : (k : Kind) → k.State → List k.Call → List (Entry k)
trace k s [] = []
trace k s (c ∷ cs) = entry k s c ∷ trace k (k.next s c) cs
