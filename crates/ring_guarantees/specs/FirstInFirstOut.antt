-- Demand 2 over lists of calls: from an accepted fresh call, with state and tables handed back untouched, those admitted are those departed
-- and then those queued, handle and size, in order.
use Rattle.std.specs.Prelude.{◌≡◌, List, ◌++◌, ℕ}
use Rattle.ring.specs.declared.Settings.{Settings}
use Rattle.refusals.specs.Answer.{made}
use Rattle.ring.specs.Fresh.{fresh}
use Rattle.calls.specs.Requests.{Request}
use Rattle.ring_guarantees.specs.Handed.{Run, queued, run}

abbrev pub InOrder : Run → Type 0
InOrder r = r.admitted ≡ r.departed ++ queued r.queue

abbrev pub FirstInFirstOut : Type 0
FirstInFirstOut =
    (settings : Settings) (clock : ℕ) (handles sizes : List ℕ) (requests : List Request) →
    (fresh settings clock).answer ≡ made → InOrder (run settings clock handles sizes requests)
