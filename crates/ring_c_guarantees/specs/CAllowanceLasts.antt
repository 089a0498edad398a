-- Question 2 in general for C calls: an allowance A, in words whose last tick was at the clock t, lasts until t + 15,000 × ⌈A / 15,000⌉.
-- From any words, over any list of C calls, each given the words that the last one left, with any tables lent, whatever ticks are tried or
-- accepted: each arrival answered below 100 with a clock below that is answered by rules 1 and 2 alone.
use mathlib.Core.List.{List, Memᴰ}
use Rattle.std.specs.Prelude.{ℕ, ◌+◌, ◌-◌, ◌*◌, ◌/◌}
use Rattle.pie.specs.Constants.{period}
use Rattle.ring.specs.Calls.{Call}
use Rattle.ring_c_guarantees.specs.CCalls.{CEntry, CodeByLimitsBefore, c_trace}
use Rattle.ring_c_guarantees.specs.Fields.{allowance_in}
use Rattle.ring_c_guarantees.specs.MoreFields.{last_tick_in}

-- the clock until which the allowance in the words lasts: ⌈allowance / 15,000⌉ tick periods after the last tick
abbrev pub c_lasts_until : (words : List ℕ) → ℕ
c_lasts_until w = last_tick_in w + period * ((allowance_in w + period - 1) / period)

-- any words: those that are not well formed accept no arrival
abbrev pub CAllowanceLasts : Type 0
CAllowanceLasts =
    (words : List ℕ) (calls : List Call) (a : CEntry) → Memᴰ a (c_trace words calls) → CodeByLimitsBefore (c_lasts_until words) a
