-- Once a crowd has left, a calm queue turns inactive (Q-12): over any list of calls from any calm well-formed state, with any tables lent
-- to each, the last of 1,000 accepted ticks in succession that each found the queue empty returns an inactive queue.
use Rattle.std.specs.Prelude.{◌≡◌, true, false, List, [], ◌∷◌, ◌++◌, ℕ, ◌≤◌}
use Rattle.refusals.specs.Answer.{ticked}
use Rattle.ring.specs.State.{well_formed}
use Rattle.ring.specs.declared.State.{State}
use Rattle.ring.specs.Calls.{Call}
use Rattle.ring_guarantees.specs.Calls.{Entry, trace}
use Rattle.ring_guarantees.specs.Recovery.{tally}

-- wherever the trace is cut; `tally` counts the ticks
abbrev pub InactiveAfter : (ticks : ℕ) → State → Type 0
InactiveAfter ticks start =
    (calls : List Call) (before : List Entry) (e : Entry) (later : List Entry) → trace start calls ≡ before ++ e ∷ later →
    e.answer ≡ ticked → ticks ≤ (tally start.backlog.count (before ++ e ∷ [])).empty_ticks → e.returned.active ≡ false

abbrev pub TurnsInactive : Type 0
TurnsInactive = (start : State) → well_formed start ≡ true → start.settings.profile ≡ 1 → InactiveAfter 1000 start
