-- Q-3: over any list of calls from any well-formed state, refused ones and other kinds of call anywhere between, with any tables lent to
-- each: the probabilities added while no early verdict comes and the queue does not turn active come to less than 8.5.
use Rattle.std.specs.Prelude.{◌≡◌, Bool, true, false, not, ◌&&◌, ◌<◌}
use mathlib.Core.List.{List, ◌++◌, Memᴰ}
use Rattle.pie.specs.Constants.{most_accumulated}
use Rattle.ring.specs.declared.State.{State}
use Rattle.ring.specs.State.{well_formed}
use Rattle.ring.specs.Calls.{Call}
use Rattle.ring_guarantees.specs.Calls.{Entry, trace}
use Rattle.ring_guarantees.specs.Spacing.{is_early_answer, added}

-- an inactive queue turns active: what it has accumulated is 0 then (Q-12)
abbrev pub activates : Entry → Bool
activates e = not e.given.active && e.returned.active

abbrev pub EarlyAtMostApart : Type 0
EarlyAtMostApart =
    (start : State) (calls : List Call) (before between later : List Entry) → well_formed start ≡ true →
    trace start calls ≡ before ++ (between ++ later) →
    ((a : Entry) → Memᴰ a between → (is_early_answer a.answer ≡ false) × (activates a ≡ false)) → added between < most_accumulated
