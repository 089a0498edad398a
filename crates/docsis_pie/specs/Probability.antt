-- Tick rules 2 to 8, for the probability (docs/DOCSIS-PIE.md, part 6; RFC 8034, A.2).
use Rattle.std.specs.Prelude.{Bool, cond, ◌&&◌, List, [], ◌∷◌, ℕ, ◌*◌, min, leb, ltb, ℤ, pos, negsuc, ◌+ℤ◌, ◌-ℤ◌, ◌*ℤ◌}
use Rattle.std.specs.Int.Signed.{lt_z, quot_z}
use Rattle.units.specs.Kinds.{none, tenth}
use Rattle.pie.specs.Update.{error_of, lookup}
use Rattle.docsis_pie.specs.Constants.{cap, high_delay, low_delay, most_prob}

-- rule 3: x is `error_of`, the ring's

-- rule 4: the last p of each row and its k; a row begins where the one above it ends
abbrev pub table : List (ℕ × ℕ)
table =
    (4294, 65536)
    ∷ (42949, 16384)
    ∷ (429496, 4096)
    ∷ (4294967, 1024)
    ∷ (42949672, 256)
    ∷ (429496729, 64)
    ∷ (4294967295, 16)
    ∷ (42949672959, 4)
    ∷ (58411555225, 1)
    ∷ []

unfoldable pub divisor_of : (p : ℕ) → ℕ
divisor_of p = lookup table p

-- rule 5: `quot_z` rounds toward zero
unfoldable pub step_of : (x : ℤ) (k : ℕ) → ℤ
step_of x k = quot_z (x *ℤ pos 536870912) (pos (15625 * k))

-- rule 6: where p, before the step, is at least one tenth, the step is at most 0.02
unfoldable pub capped : (p : ℕ) (step : ℤ) → ℤ
capped p step = cond (leb tenth p && lt_z (pos cap) step) (pos cap) step

-- rule 7: both delays are low
abbrev pub both_low : (delay old : ℕ) → Bool
both_low delay old = ltb delay low_delay && ltb old low_delay

-- rule 7: p loses p / 50, or gains 0.02 at a high delay
unfoldable pub adjusted : (delay old : ℕ) (p : ℤ) → ℤ
adjusted delay old p =
    cond (both_low delay old) (p -ℤ quot_z p (pos 50))
    (cond (ltb high_delay delay) (p +ℤ pos cap)
    p)

-- rule 8
unfoldable pub limited : (p : ℤ) → ℕ
limited (pos p) = min p most_prob
limited (negsuc n) = none

-- rules 3 to 8
unfoldable pub stepped_prob : (p delay old target : ℕ) → ℕ
stepped_prob p delay old target =
    limited (adjusted delay old (pos p +ℤ capped p (step_of (error_of delay old target) (divisor_of p))))

-- rules 2 to 8: while an allowance runs the probability is 0
unfoldable pub next_prob : (p allowance delay old target : ℕ) → ℕ
next_prob p allowance delay old target = cond (ltb 0 allowance) none (stepped_prob p delay old target)
