-- No measurement is given up (Q-6), of any kind of queue that sheds load by PIE: over any list of calls from a state in which none runs, a
-- measurement ends before the queue empties, or as it does. (One that runs where an inactive queue turns active ends there: Q-12.)
use Rattle.std.specs.Prelude.{◌≡◌, true, false, ℕ, ◌+◌, ◌≤◌, ◌<◌}
use mathlib.Core.List.{List, Memᴰ}
use Rattle.pie.specs.Constants.{threshold}
use Rattle.calls.specs.Traces.{Entry, trace}
use Rattle.pie_guarantees.specs.Shedding.{Shedding, Sheds, departed}

-- while a measurement runs, counted bytes and queued bytes come to at least 16,384
abbrev pub EnoughQueued : (k : Shedding) → k.kind.State → Type 0
EnoughQueued k s = (k.pie s).rate.measuring ≡ true → threshold ≤ (k.pie s).rate.counted.0 + k.bytes s

pub record GivesNothingUp (k : Shedding) (a : Entry k.kind) : Type 0 where
  pub enough : EnoughQueued k a.given
  -- a departure that does not bring the counted bytes to 16,384 leaves packets queued
  pub others : (size : ℕ) → k.tells a.answer ≡ departed size → (k.pie a.given).rate.measuring ≡ true →
      (k.pie a.given).rate.counted.0 + size < threshold → 1 < k.count a.given

abbrev pub NeverGivenUp : Type 1
NeverGivenUp =
    (k : Shedding) → Sheds k → (start : k.kind.State) (calls : List k.kind.Call) → (k.pie start).rate.measuring ≡ false →
    (a : Entry k.kind) → Memᴰ a (trace k.kind start calls) → GivesNothingUp k a
