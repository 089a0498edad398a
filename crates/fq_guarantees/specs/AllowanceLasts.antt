-- Question 2 for each of 64 flows: a flow's allowance A, in a record whose last tick was at the clock t, lasts until t + 15,000 × ⌈A /
-- 15,000⌉. Over any list of calls from that record, whatever ticks are tried or accepted and whatever the other flows do, each accepted
-- arrival whose flow it is, with a clock below that, is answered by rules 1 and 2 alone (crate pie_guarantees: `lasts_until`,
-- `ByLimitsBefore`).
use mathlib.Core.List.{List, Memᴰ}
use Rattle.std.specs.Prelude.{ℕ, ◌<◌}
use Rattle.calls.specs.Traces.{Entry, trace}
use Rattle.pie_guarantees.specs.AllowanceLasts.{ByLimitsBefore, lasts_until}
use Rattle.fq_guarantees.specs.Calls.{Call}
use Rattle.fq_guarantees.specs.Lists.{fq_calls}
use Rattle.fq_guarantees.specs.Shedding.{flow_queue}
use Rattle.fq_guarantees.specs.SixtyFour.{Record64}

-- any record: one that is not well formed accepts no arrival
abbrev pub AllowanceLasts : Type 0
AllowanceLasts =
    (f : ℕ) (start : Record64) (calls : List Call) → f < 64 → (a : Entry fq_calls) → Memᴰ a (trace fq_calls start calls) →
    ByLimitsBefore (flow_queue f) (lasts_until (flow_queue f) start) a
