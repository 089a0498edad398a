-- Question 2 for each of 64 flows: a full allowance lasts 150,000 microseconds. After an accepted tick that fills it, at the clock t,
-- each accepted arrival whose flow it is, with a clock below t + 150,000, is answered by rules 1 and 2 alone, whatever ticks are tried or
-- accepted and whatever the other flows do.
use Rattle.std.specs.Prelude.{◌≡◌, ℕ, ◌+◌, ◌<◌}
use mathlib.Core.List.{List, ◌∷◌, ◌++◌, Memᴰ}
use Rattle.pie.specs.Constants.{full_allowance}
use Rattle.calls.specs.Traces.{Entry, trace}
use Rattle.pie_guarantees.specs.AllowanceLasts.{ByLimitsBefore}
use Rattle.fq_rules.specs.Answer.{ticked}
use Rattle.fq_guarantees.specs.Calls.{Call}
use Rattle.fq_guarantees.specs.Lists.{fq_calls}
use Rattle.fq_guarantees.specs.Shedding.{clock_in, flow_queue, own}
use Rattle.fq_guarantees.specs.SixtyFour.{Record64}

abbrev pub Grace : Type 0
Grace =
    (f : ℕ) (start : Record64) (calls : List Call) → f < 64 →
    (before : List (Entry fq_calls)) (e : Entry fq_calls) (later : List (Entry fq_calls)) →
    trace fq_calls start calls ≡ before ++ e ∷ later → e.answer.answer ≡ ticked → (own f e.returned.state).allowance ≡ full_allowance →
    (a : Entry fq_calls) → Memᴰ a later → ByLimitsBefore (flow_queue f) (clock_in e.call + full_allowance) a
