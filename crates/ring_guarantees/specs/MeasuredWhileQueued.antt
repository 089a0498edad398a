-- No sample spans a moment at which the queue was empty (Q-6): in every trace from a well-formed state, wherever a measurement runs,
-- before a call or after it, a packet is queued.
use Rattle.std.specs.Prelude.{◌≡◌, true, ◌<◌}
use mathlib.Core.List.{List, Memᴰ}
use Rattle.ring.specs.declared.State.{State}
use Rattle.ring.specs.State.{well_formed}
use Rattle.ring.specs.Calls.{Call}
use Rattle.ring_guarantees.specs.Calls.{Entry, trace}

abbrev pub QueuedIfMeasuring : State → Type 0
QueuedIfMeasuring s = s.pie.rate.measuring ≡ true → 0 < s.backlog.count

abbrev pub MeasuredWhileQueued : Type 0
MeasuredWhileQueued =
    (start : State) (calls : List Call) → well_formed start ≡ true →
    (a : Entry) → Memᴰ a (trace start calls) → QueuedIfMeasuring a.given × QueuedIfMeasuring a.returned
