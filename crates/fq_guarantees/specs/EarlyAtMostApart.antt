-- Q-3 for each of 64 flows: over any list of calls from a well-formed record, refused ones, those of other flows and other kinds of call
-- anywhere between, the probabilities that arrivals of the flow add while it has no early verdict come to less than 8.5 (`added`, crate
-- pie_guarantees).
use Rattle.std.specs.Prelude.{◌≡◌, true, false, ℕ, ◌<◌}
use mathlib.Core.List.{List, ◌++◌, Memᴰ}
use Rattle.pie.specs.Constants.{most_accumulated}
use Rattle.calls.specs.Traces.{Entry, trace}
use Rattle.pie_guarantees.specs.Spacing.{added, tells_early}
use Rattle.fq_state.specs.WellFormed.{well_formed}
use Rattle.fq_guarantees.specs.Calls.{Call}
use Rattle.fq_guarantees.specs.Lists.{fq_calls}
use Rattle.fq_guarantees.specs.Shedding.{flow_queue, tells}
use Rattle.fq_guarantees.specs.SixtyFour.{Record64}

abbrev pub EarlyAtMostApart : Type 0
EarlyAtMostApart =
    (f : ℕ) (start : Record64) (calls : List Call) → f < 64 → (before between later : List (Entry fq_calls)) →
    well_formed start.state ≡ true → trace fq_calls start calls ≡ before ++ (between ++ later) →
    ((a : Entry fq_calls) → Memᴰ a between → tells_early (tells f a.answer) ≡ false) →
    added (flow_queue f) between < most_accumulated
