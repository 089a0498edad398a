-- No sample spans a moment at which the queue was empty (Q-6), of any kind of queue that sheds load by PIE: in every trace from a
-- well-formed state, wherever a measurement runs, before a call or after it, a packet is queued.
use Rattle.std.specs.Prelude.{◌≡◌, true, ◌<◌}
use mathlib.Core.List.{List, Memᴰ}
use Rattle.calls.specs.Traces.{Entry, trace}
use Rattle.pie_guarantees.specs.Shedding.{Shedding, Sheds}

abbrev pub QueuedIfMeasuring : (k : Shedding) → k.kind.State → Type 0
QueuedIfMeasuring k s = (k.pie s).rate.measuring ≡ true → 0 < k.count s

abbrev pub MeasuredWhileQueued : Type 1
MeasuredWhileQueued =
    (k : Shedding) → Sheds k → (start : k.kind.State) (calls : List k.kind.Call) → k.Formed start →
    (a : Entry k.kind) → Memᴰ a (trace k.kind start calls) → QueuedIfMeasuring k a.given × QueuedIfMeasuring k a.returned
