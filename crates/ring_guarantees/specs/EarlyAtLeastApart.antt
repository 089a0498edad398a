-- Q-3: over any list of calls, refused ones and other kinds of call anywhere between, with any tables lent to each: the probabilities
-- added after one early verdict, up to and with a later one, come to at least 0.85.
use Rattle.std.specs.Prelude.{◌≡◌, true, List, [], ◌∷◌, ◌++◌, ◌*◌, ◌≤◌}
use Rattle.units.specs.Kinds.{whole}
use Rattle.ring.specs.declared.State.{State}
use Rattle.ring.specs.Calls.{Call}
use Rattle.ring_guarantees.specs.Calls.{Entry, trace}
use Rattle.ring_guarantees.specs.Spacing.{is_early_answer, added}

abbrev pub EarlyAtLeastApart : Type 0
EarlyAtLeastApart =
    (start : State) (calls : List Call) (before : List Entry) (first : Entry) (between : List Entry) (next : Entry) (later : List Entry) →
    trace start calls ≡ before ++ first ∷ (between ++ next ∷ later) →
    is_early_answer first.answer ≡ true → is_early_answer next.answer ≡ true →
    17 * whole ≤ 20 * added (between ++ next ∷ [])
