-- Question 2 for each of two queues: a full allowance lasts 150,000 microseconds. After an accepted fresh call, each accepted arrival at
-- the queue less than 150,000 microseconds after its start clock is answered by rules 1 and 2 alone, whatever ticks are tried or accepted
-- and whatever the other queue does.
use Rattle.std.specs.Prelude.{◌≡◌, ℕ, ◌+◌}
use mathlib.Core.List.{List, Memᴰ}
use Rattle.pie.specs.Constants.{full_allowance}
use Rattle.calls.specs.Traces.{Entry, trace}
use Rattle.pie_guarantees.specs.AllowanceLasts.{ByLimitsBefore}
use Rattle.refusals.specs.Answer.{made}
use Rattle.pair_rules.specs.Fresh.{fresh}
use Rattle.pair_rules.specs.Queues.{own}
use Rattle.pair_rules.specs.declared.Setup.{Setup}
use Rattle.pair_rules.specs.declared.Which.{Which}
use Rattle.pair_rules.specs.declared.Which.TheVariants.{Intercom, Passengers}
use Rattle.pair_guarantees.specs.Calls.{OwnCall, own_calls}
use Rattle.pair_guarantees.specs.Shedding.{queue_of}

-- what fresh is told of the queue
abbrev pub setup_for : Which → (intercom passengers : Setup) → Setup
setup_for Intercom intercom passengers = intercom
setup_for Passengers intercom passengers = passengers

abbrev pub FreshGrace : Type 0
FreshGrace =
    (w : Which) (slots : ℕ) (intercom passengers : Setup) (calls : List OwnCall) → (fresh slots intercom passengers).answer ≡ made →
    (a : Entry (own_calls w)) → Memᴰ a (trace (own_calls w) (own w (fresh slots intercom passengers).pair) calls) →
    ByLimitsBefore (queue_of w) ((setup_for w intercom passengers).clock.0 + full_allowance) a
