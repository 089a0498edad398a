-- What makes an allowance last, of any kind of queue that sheds load by PIE: an allowance A, in a state whose last tick was at the clock
-- t, lasts until t + 15,000 × ⌈A / 15,000⌉. Over any list of calls from that state, whatever ticks are tried or accepted, each accepted
-- arrival with a clock below that is answered by rules 1 and 2 alone: what they let through, rule 3 enqueues.
use Rattle.std.specs.Prelude.{◌≡◌, ℕ, ◌+◌, ◌-◌, ◌*◌, ◌/◌, ◌<◌}
use mathlib.Core.List.{List, Memᴰ}
use Rattle.pie.specs.Constants.{period}
use Rattle.pie.specs.declared.Verdict.{Verdict}
use Rattle.pie.specs.declared.Verdict.TheVariants.{Enqueued}
use Rattle.calls.specs.Traces.{Entry, trace}
use Rattle.pie_guarantees.specs.Shedding.{Shedding, Sheds, decided, limited}

-- if the entry is an accepted arrival with a clock below `end`, rules 1 and 2 alone decide
abbrev pub ByLimitsBefore : (k : Shedding) (end : ℕ) → Entry k.kind → Type 0
ByLimitsBefore k end e =
    (v : Verdict) → k.tells e.answer ≡ decided v → k.clock e.call < end → v ≡ limited k e.given e.call Enqueued

-- ⌈allowance / 15,000⌉
abbrev pub periods : (allowance : ℕ) → ℕ
periods allowance = (allowance + period - 1) / period

-- the clock until which the state's allowance lasts
abbrev pub lasts_until : (k : Shedding) → k.kind.State → ℕ
lasts_until k s = k.last s + period * periods (k.pie s).allowance.0

abbrev pub AllowanceLasts : Type 1
AllowanceLasts =
    (k : Shedding) → Sheds k → (start : k.kind.State) (calls : List k.kind.Call) →
    (a : Entry k.kind) → Memᴰ a (trace k.kind start calls) → ByLimitsBefore k (lasts_until k start) a
