-- No sample of a queue's departure rate spans a moment at which that queue was empty (Q-6): over any list of its own calls, from its state
-- in any well-formed records, wherever a measurement runs, before a call or after it, a packet of its own is queued.
use Rattle.std.specs.Prelude.{◌≡◌, true, ◌<◌}
use mathlib.Core.List.{List, Memᴰ}
use Rattle.calls.specs.Traces.{Entry, trace}
use Rattle.pair_rules.specs.Queues.{own}
use Rattle.pair_rules.specs.WellFormed.{well_formed}
use Rattle.pair_rules.specs.declared.Pair.{Pair}
use Rattle.pair_rules.specs.declared.State.{State}
use Rattle.pair_rules.specs.declared.Which.{Which}
use Rattle.pair_guarantees.specs.Calls.{OwnCall, own_calls}

abbrev pub QueuedIfMeasuring : State → Type 0
QueuedIfMeasuring s = s.pie.rate.measuring ≡ true → 0 < s.backlog.count

abbrev pub MeasuredWhileQueued : Type 0
MeasuredWhileQueued =
    (w : Which) (p : Pair) (calls : List OwnCall) → well_formed p ≡ true →
    (a : Entry (own_calls w)) → Memᴰ a (trace (own_calls w) (own w p) calls) →
    QueuedIfMeasuring a.given × QueuedIfMeasuring a.returned
