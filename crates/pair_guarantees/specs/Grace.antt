-- Question 2 for each of two queues: a full allowance lasts 150,000 microseconds. After an accepted tick that fills it, at the clock t,
-- each accepted arrival at that queue with a clock below t + 150,000 is answered by rules 1 and 2 alone, whatever ticks are tried or
-- accepted and whatever the other queue does.
use Rattle.std.specs.Prelude.{◌≡◌, ◌+◌}
use mathlib.Core.List.{List, ◌∷◌, ◌++◌, Memᴰ}
use Rattle.pie.specs.Constants.{full_allowance}
use Rattle.calls.specs.Traces.{Entry, trace}
use Rattle.pie_guarantees.specs.AllowanceLasts.{ByLimitsBefore}
use Rattle.refusals.specs.Answer.{ticked}
use Rattle.pair_rules.specs.declared.State.{State}
use Rattle.pair_rules.specs.declared.Which.{Which}
use Rattle.pair_guarantees.specs.Calls.{OwnCall, own_calls}
use Rattle.pair_guarantees.specs.Shedding.{clock_in, queue_of}

abbrev pub Grace : Type 0
Grace =
    (w : Which) (start : State) (calls : List OwnCall) →
    (before : List (Entry (own_calls w))) (e : Entry (own_calls w)) (later : List (Entry (own_calls w))) →
    trace (own_calls w) start calls ≡ before ++ e ∷ later → e.answer ≡ ticked → e.returned.pie.allowance.0 ≡ full_allowance →
    (a : Entry (own_calls w)) → Memᴰ a later → ByLimitsBefore (queue_of w) (clock_in e.call.call + full_allowance) a
