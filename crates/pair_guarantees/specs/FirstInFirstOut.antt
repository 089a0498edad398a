-- Demand 2 over lists of calls of both queues: from an accepted fresh call, with records and tables handed back untouched, those admitted
-- to a queue are those departed from it and then those that its chain holds, handle and size, in order. The tables may hold anything at
-- first.
use Rattle.std.specs.Prelude.{◌≡◌, List, ◌++◌, ℕ}
use Rattle.refusals.specs.Answer.{made}
use Rattle.pair_rules.specs.Fresh.{fresh}
use Rattle.pair_rules.specs.declared.Setup.{Setup}
use Rattle.pair_rules.specs.declared.Which.{Which}
use Rattle.pair_guarantees.specs.Handed.{Call, Run, queued, run}

abbrev pub InOrder : (w : Which) → Run w → Type 0
InOrder w r = r.admitted ≡ r.departed ++ queued w r.queue

abbrev pub FirstInFirstOut : Type 0
FirstInFirstOut =
    (w : Which) (slots : ℕ) (intercom passengers : Setup) (handles sizes : List ℕ) (calls : List Call) →
    (fresh slots intercom passengers).answer ≡ made → InOrder w (run w slots intercom passengers handles sizes calls)
