-- Question 2 for C calls: could the burst allowance have run out early if the timer fired twice? From any words, over any list of C calls,
-- each given the words that the last one left: after a tick that is answered 0 and leaves the allowance full, at the clock t, each arrival
-- answered below 100 with a clock below t + 150,000 is answered by rules 1 and 2 alone, whatever ticks were tried or accepted in between.
use Rattle.std.specs.Prelude.{◌≡◌, ℕ, ◌+◌}
use mathlib.Core.List.{List, ◌∷◌, ◌++◌, Memᴰ}
use Rattle.pie.specs.Constants.{full_allowance}
use Rattle.ring.specs.Calls.{Call, update}
use Rattle.ring_c_guarantees.specs.CCalls.{CEntry, CodeByLimitsBefore, c_trace}
use Rattle.ring_c_guarantees.specs.Fields.{allowance_in}

abbrev pub CGrace : Type 0
CGrace =
    (words : List ℕ) (calls : List Call) (before : List CEntry) (e : CEntry) (later : List CEntry) (t : ℕ) →
    c_trace words calls ≡ before ++ e ∷ later →
    e.call ≡ update t → e.code ≡ 0 → allowance_in e.returned ≡ full_allowance →
    (a : CEntry) → Memᴰ a later → CodeByLimitsBefore (t + full_allowance) a
