-- No sample of a flow's departure rate spans a moment at which that flow was empty (Q-6): over any list of calls from any well-formed
-- record, wherever a measurement of the flow runs, before a call or after it, a packet of its own is queued.
use Rattle.std.specs.Prelude.{◌≡◌, true, ℕ, ◌<◌}
use mathlib.Core.List.{List, Memᴰ}
use Rattle.calls.specs.Traces.{Entry, trace}
use Rattle.pie_words.specs.Flags.{is_set}
use Rattle.fq_state.specs.WellFormed.{well_formed}
use Rattle.fq_state.specs.declared.Flow.{Flow}
use Rattle.fq_guarantees.specs.Calls.{Call}
use Rattle.fq_guarantees.specs.Lists.{fq_calls}
use Rattle.fq_guarantees.specs.Shedding.{own}
use Rattle.fq_guarantees.specs.SixtyFour.{Record64}

abbrev pub QueuedIfMeasuring : Flow → Type 0
QueuedIfMeasuring f = is_set f.measuring ≡ true → 0 < f.count

abbrev pub MeasuredWhileQueued : Type 0
MeasuredWhileQueued =
    (f : ℕ) (start : Record64) (calls : List Call) → f < 64 → well_formed start.state ≡ true →
    (a : Entry fq_calls) → Memᴰ a (trace fq_calls start calls) →
    QueuedIfMeasuring (own f a.given.state) × QueuedIfMeasuring (own f a.returned.state)
