-- Question 2: a full allowance lasts 150,000 microseconds after an accepted fresh call at the clock t, over any list of calls from the
-- state that it returned, whatever ticks were tried or accepted in between: each accepted arrival with a clock below t + 150,000 is
-- answered by rules 1 and 2 alone. An instance of AllowanceLasts.
use Rattle.std.specs.Prelude.{◌≡◌, ℕ, ◌+◌}
use mathlib.Core.List.{List, Memᴰ}
use Rattle.pie.specs.Constants.{full_allowance}
use Rattle.ring.specs.declared.Settings.{Settings}
use Rattle.refusals.specs.Answer.{made}
use Rattle.ring.specs.Fresh.{fresh}
use Rattle.ring_guarantees.specs.Calls.{ByLimitsBefore, Entry, trace}
use Rattle.ring.specs.Calls.{Call}

abbrev pub FreshGrace : Type 0
FreshGrace =
    (settings : Settings) (t : ℕ) (calls : List Call) → (fresh settings t).answer ≡ made →
    (a : Entry) → Memᴰ a (trace (fresh settings t).state calls) → ByLimitsBefore (t + full_allowance) a
