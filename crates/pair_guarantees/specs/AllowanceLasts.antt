-- Question 2 for each of two queues: an allowance A, in a state whose last tick was at the clock t, lasts until t + 15,000 × ⌈A /
-- 15,000⌉. Over any list of the queue's own calls from that state, whatever ticks are tried or accepted and whatever the other queue
-- does, each accepted arrival with a clock below that is answered by rules 1 and 2 alone (crate pie_guarantees: `lasts_until`,
-- `ByLimitsBefore`).
use mathlib.Core.List.{List, Memᴰ}
use Rattle.calls.specs.Traces.{Entry, trace}
use Rattle.pie_guarantees.specs.AllowanceLasts.{ByLimitsBefore, lasts_until}
use Rattle.pair_rules.specs.declared.State.{State}
use Rattle.pair_rules.specs.declared.Which.{Which}
use Rattle.pair_guarantees.specs.Calls.{OwnCall, own_calls}
use Rattle.pair_guarantees.specs.Shedding.{queue_of}

-- any state: one that is not well formed accepts no arrival
abbrev pub AllowanceLasts : Type 0
AllowanceLasts =
    (w : Which) (start : State) (calls : List OwnCall) (a : Entry (own_calls w)) → Memᴰ a (trace (own_calls w) start calls) →
    ByLimitsBefore (queue_of w) (lasts_until (queue_of w) start) a
