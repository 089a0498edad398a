-- The trace over states is the trace over words, entry by entry; and an arrival that is answered below 100 got a verdict.
use mathlib.Core.Path.{◌≡◌, refl, ap, sym, ◌∙◌}
use mathlib.Core.List.{List, [], ◌∷◌, map, map-map}
use Prim.Native.Nat.{ℕ, ◌<◌}
use mathlib.Core.Bool.{Bool}
use native.Mathlib.Omega.{arith}
use Rattle.pie.specs.declared.Verdict.{Verdict}
use Rattle.refusals.specs.Answer.{verdict}
use Rattle.refusals.specs.Codes.{code_of}
use Rattle.ring.specs.Activity.{begun}
use Rattle.ring.specs.Arrival.{verdict_of}
use Rattle.ring.specs.Calls.{Call, arrive, reply}
use Rattle.ring.specs.declared.State.{State}
use Rattle.ring_words.specs.Words.{state_of}
use Rattle.ring_guarantees.specs.Calls.{Entry, entry, trace}
use Rattle.ring_guarantees.proofs.Replies.{at-one-reply}
use Rattle.ring_c_guarantees.specs.CCalls.{c_trace}
use Rattle.ring_c_guarantees.specs.TracesJoined.{TraceLine, line_of_states, line_of_words}
use Rattle.ring_c_guarantees.proofs.CTraces.{entry_of}
use Rattle.ring_c_guarantees.proofs.TracesJoined.{traces-joined}

-- the entry that a line of both traces tells of
abbrev told_of : TraceLine → Entry
told_of l = entry l.given l.call

lines-told : (s : State) (calls : List Call) → map told_of (map line_of_states (trace s calls)) ≡ trace s calls
lines-told s [] = refl
lines-told s (c ∷ cs) = ap (λ (l : List Entry). entry s c ∷ l) (lines-told (reply s c).state cs)

pub trace-of : (words : List ℕ) (calls : List Call) → map entry_of (c_trace words calls) ≡ trace (state_of words) calls
trace-of w calls =
    sym (map-map told_of line_of_words (c_trace w calls)) ∙ ap (map told_of) (traces-joined w calls) ∙ lines-told (state_of w) calls

module _ (s : State) (handles sizes : List ℕ) (clock handle size : ℕ) (ecn : Bool) (u : ℕ) where
  abbrev pub arrived : Call
  arrived = arrive handles sizes clock handle size ecn u

  pub arrival-answered : code_of (reply s arrived).answer < 100 → (v : Verdict) × ((reply s arrived).answer ≡ verdict v)
  arrival-answered =
      at-one-reply (λ r. code_of r.answer < 100 → (v : Verdict) × (r.answer ≡ verdict v)) s arrived
      (λ number h. absurd (omega arith))
      (λ a h. (verdict_of (begun s) size ecn u, refl))
