-- Q-3 for each of two queues: over any list of its own calls, refused ones and other kinds of call anywhere between, whatever the other
-- queue does: the probabilities added after one early verdict, up to and with a later one, come to at least 0.85 (`added`, crate
-- pie_guarantees).
use Rattle.std.specs.Prelude.{◌≡◌, true, List, [], ◌∷◌, ◌++◌, ◌*◌, ◌≤◌}
use Rattle.units.specs.Kinds.{whole}
use Rattle.calls.specs.Traces.{Entry, trace}
use Rattle.pie_guarantees.specs.Spacing.{added, tells_early}
use Rattle.pair_rules.specs.declared.State.{State}
use Rattle.pair_rules.specs.declared.Which.{Which}
use Rattle.pair_guarantees.specs.Calls.{OwnCall, own_calls}
use Rattle.pair_guarantees.specs.Shedding.{queue_of, tells}

abbrev pub EarlyAtLeastApart : Type 0
EarlyAtLeastApart =
    (w : Which) (start : State) (calls : List OwnCall) (before : List (Entry (own_calls w))) (first : Entry (own_calls w)) →
    (between : List (Entry (own_calls w))) (next : Entry (own_calls w)) (later : List (Entry (own_calls w))) →
    trace (own_calls w) start calls ≡ before ++ first ∷ (between ++ next ∷ later) →
    tells_early (tells first.answer) ≡ true → tells_early (tells next.answer) ≡ true →
    17 * whole ≤ 20 * added (queue_of w) (between ++ next ∷ [])
