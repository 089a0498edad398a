-- From fresh no measurement of either queue is given up (Q-6): over any list of its own calls from an accepted fresh call, whatever is lent
-- to each, a measurement ends before the queue empties, or as it does (`GivesNothingUp`, crate pie_guarantees).
use Rattle.std.specs.Prelude.{◌≡◌, ℕ}
use mathlib.Core.List.{List, Memᴰ}
use Rattle.calls.specs.Traces.{Entry, trace}
use Rattle.pie_guarantees.specs.NeverGivenUp.{GivesNothingUp}
use Rattle.refusals.specs.Answer.{made}
use Rattle.pair_rules.specs.Fresh.{fresh}
use Rattle.pair_rules.specs.Queues.{own}
use Rattle.pair_rules.specs.declared.Setup.{Setup}
use Rattle.pair_rules.specs.declared.Which.{Which}
use Rattle.pair_guarantees.specs.Calls.{OwnCall, own_calls}
use Rattle.pair_guarantees.specs.Shedding.{queue_of}

abbrev pub NeverGivenUp : Type 0
NeverGivenUp =
    (w : Which) (slots : ℕ) (intercom passengers : Setup) (calls : List OwnCall) → (fresh slots intercom passengers).answer ≡ made →
    (a : Entry (own_calls w)) → Memᴰ a (trace (own_calls w) (own w (fresh slots intercom passengers).pair) calls) →
    GivesNothingUp (queue_of w) a
