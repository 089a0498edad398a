-- Question 2 in general: an allowance A, in a state whose last tick was at the clock t, lasts until t + 15,000 × ⌈A / 15,000⌉. Over any
-- list of calls from that state, whatever ticks are tried or accepted, each accepted arrival with a clock below that is answered by rules 1
-- and 2 alone: what they let through, rule 3 enqueues.
use mathlib.Core.List.{List, Memᴰ}
use Rattle.std.specs.Prelude.{ℕ, ◌+◌, ◌-◌, ◌*◌, ◌/◌}
use Rattle.pie.specs.Constants.{period}
use Rattle.ring.specs.declared.State.{State}
use Rattle.ring_guarantees.specs.Calls.{ByLimitsBefore, Entry, trace}
use Rattle.ring.specs.Calls.{Call}

-- ⌈allowance / 15,000⌉
abbrev pub periods : (allowance : ℕ) → ℕ
periods allowance = (allowance + period - 1) / period

-- the clock until which the state's allowance lasts
abbrev pub lasts_until : State → ℕ
lasts_until s = s.last.0 + period * periods s.pie.allowance.0

-- any state: one that is not well formed accepts no arrival
abbrev pub AllowanceLasts : Type 0
AllowanceLasts =
    (start : State) (calls : List Call) (a : Entry) → Memᴰ a (trace start calls) → ByLimitsBefore (lasts_until start) a
