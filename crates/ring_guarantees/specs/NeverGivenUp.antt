-- From fresh no measurement is given up (Q-6): over any list of calls from an accepted fresh call, with any tables lent to each, a
-- measurement ends before the queue empties, or as it does. (One that runs where an inactive queue turns active ends there: Q-12.)
use Rattle.std.specs.Prelude.{◌≡◌, true, ℕ, ◌+◌, ◌≤◌, ◌<◌}
use mathlib.Core.List.{List, Memᴰ}
use Rattle.pie.specs.Constants.{threshold}
use Rattle.ring.specs.declared.Settings.{Settings}
use Rattle.ring.specs.declared.State.{State}
use Rattle.refusals.specs.Answer.{departed, made}
use Rattle.ring.specs.Fresh.{fresh}
use Rattle.ring.specs.Calls.{Call}
use Rattle.ring_guarantees.specs.Calls.{Entry, trace}

-- while a measurement runs, counted bytes and queued bytes come to at least 16,384
abbrev pub EnoughQueued : State → Type 0
EnoughQueued s = s.pie.rate.measuring ≡ true → threshold ≤ s.pie.rate.counted.0 + s.backlog.bytes.0

pub record GivesNothingUp (a : Entry) : Type 0 where
  pub enough : EnoughQueued a.given
  -- a departure that does not bring the counted bytes to 16,384 leaves packets queued
  pub others : (handle size : ℕ) → a.answer ≡ departed handle size → a.given.pie.rate.measuring ≡ true →
      a.given.pie.rate.counted.0 + size < threshold → 1 < a.given.backlog.count

abbrev pub NeverGivenUp : Type 0
NeverGivenUp =
    (settings : Settings) (clock : ℕ) (calls : List Call) → (fresh settings clock).answer ≡ made →
    (a : Entry) → Memᴰ a (trace (fresh settings clock).state calls) → GivesNothingUp a
