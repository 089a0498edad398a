-- Question 2 for each of 64 flows: a full allowance lasts 150,000 microseconds. After an accepted fresh call, each accepted arrival less
-- than 150,000 microseconds after the start clock is answered by rules 1 and 2 alone, whatever ticks are tried or accepted.
use Rattle.std.specs.Prelude.{◌≡◌, ℕ, ◌+◌, ◌<◌}
use mathlib.Core.List.{List, Memᴰ}
use Rattle.pie.specs.Constants.{full_allowance}
use Rattle.calls.specs.Traces.{Entry, trace}
use Rattle.pie_guarantees.specs.AllowanceLasts.{ByLimitsBefore}
use Rattle.fq_state.specs.Fresh.{fresh_refusal}
use Rattle.fq_state.specs.declared.Settings.{Settings}
use Rattle.fq_guarantees.specs.Calls.{Call}
use Rattle.fq_guarantees.specs.Lists.{fq_calls}
use Rattle.fq_guarantees.specs.Shedding.{flow_queue}
use Rattle.fq_guarantees.specs.SixtyFour.{fresh64}

abbrev pub FreshGrace : Type 0
FreshGrace =
    (f : ℕ) (settings : Settings) (clock : ℕ) (calls : List Call) → f < 64 → fresh_refusal settings clock ≡ 0 →
    (a : Entry fq_calls) → Memᴰ a (trace fq_calls (fresh64 settings clock) calls) →
    ByLimitsBefore (flow_queue f) (clock + full_allowance) a
