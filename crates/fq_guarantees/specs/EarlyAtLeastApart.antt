-- Q-3 for each of 64 flows: over any list of calls, refused ones, those of other flows and other kinds of call anywhere between, the
-- probabilities that arrivals of the flow add after one early verdict, up to and with a later one, come to at least 0.85 (`added`, crate
-- pie_guarantees).
use Rattle.std.specs.Prelude.{◌≡◌, true, List, [], ◌∷◌, ◌++◌, ℕ, ◌*◌, ◌≤◌, ◌<◌}
use Rattle.units.specs.Kinds.{whole}
use Rattle.calls.specs.Traces.{Entry, trace}
use Rattle.pie_guarantees.specs.Spacing.{added, tells_early}
use Rattle.fq_guarantees.specs.Calls.{Call}
use Rattle.fq_guarantees.specs.Lists.{fq_calls}
use Rattle.fq_guarantees.specs.Shedding.{flow_queue, tells}
use Rattle.fq_guarantees.specs.SixtyFour.{Record64}

abbrev pub EarlyAtLeastApart : Type 0
EarlyAtLeastApart =
    (f : ℕ) (start : Record64) (calls : List Call) → f < 64 → (before : List (Entry fq_calls)) (first : Entry fq_calls) →
    (between : List (Entry fq_calls)) (next : Entry fq_calls) (later : List (Entry fq_calls)) →
    trace fq_calls start calls ≡ before ++ first ∷ (between ++ next ∷ later) →
    tells_early (tells f first.answer) ≡ true → tells_early (tells f next.answer) ≡ true →
    17 * whole ≤ 20 * added (flow_queue f) (between ++ next ∷ [])
