-- Question 2: could the burst allowance have run out early if the timer fired twice? A full allowance lasts 150,000 microseconds,
-- whatever ticks were tried or accepted in between: an instance of AllowanceLasts.
use Rattle.std.specs.Prelude.{◌≡◌, ℕ, ◌+◌}
use mathlib.Core.List.{List, ◌∷◌, ◌++◌, Memᴰ}
use Rattle.pie.specs.Constants.{full_allowance}
use Rattle.ring.specs.declared.State.{State}
use Rattle.refusals.specs.Answer.{ticked}
use Rattle.ring_guarantees.specs.Calls.{ByLimitsBefore, Entry, trace}
use Rattle.ring.specs.Calls.{Call, update}

-- from any state and over any list of calls: after an accepted tick that fills the allowance, at the clock t, each accepted arrival with a
-- clock below t + 150,000 is answered by rules 1 and 2 alone
abbrev pub Grace : Type 0
Grace =
    (start : State) (calls : List Call) (before : List Entry) (e : Entry) (later : List Entry) (t : ℕ) →
    trace start calls ≡ before ++ e ∷ later →
    e.call ≡ update t → e.answer ≡ ticked → e.returned.pie.allowance.0 ≡ full_allowance →
    (a : Entry) → Memᴰ a later → ByLimitsBefore (t + full_allowance) a
