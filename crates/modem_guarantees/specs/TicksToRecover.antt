-- How many ticks in succession, each finding a modem's flow empty, suffice at a given target (docs/DOCSIS-PIE.md, part 6).
use Rattle.std.specs.Prelude.{◌≡◌, cond, ◌&&◌, List, [], ◌∷◌, map, ℕ, zero, suc, ◌≤◌, max, min, eqb, leb, pos, ◌+ℤ◌}
use Rattle.pie.specs.Update.{error_of}
use Rattle.docsis_pie.specs.Constants.{most_prob}
use Rattle.docsis_pie.specs.Probability.{adjusted, capped, limited, next_prob, step_of, table}

-- what a tick with both delays 0 leaves of p by rules 3 to 8, where rule 4 gives k
unfoldable pub left_of : (target k p : ℕ) → ℕ
left_of target k p = limited (adjusted 0 0 (pos p +ℤ capped p (step_of (error_of 0 0 target) k)))

-- such a tick leaves no more than this of any probability up to b: with one k a higher p leaves more, so that it is enough to look at the
-- last p of each row of the table of rule 4, or at b where that is lower
unfoldable pub most_in : List (ℕ × ℕ) → (target b : ℕ) → ℕ
most_in [] target b = left_of target 1 b
most_in ((end, k) ∷ rows) target b = max (left_of target k (min b end)) (most_in rows target b)

unfoldable pub most_left : (target b : ℕ) → ℕ
most_left target b = most_in table target b

-- how many such ticks until nothing is left of any probability up to b, counted up to `fuel`
unfoldable pub ticks_until_none : (fuel target b : ℕ) → ℕ
ticks_until_none zero target b = 0
ticks_until_none (suc fuel) target b = cond (eqb b 0) 0 (suc (ticks_until_none fuel target (most_left target b)))

-- from the highest probability, 13.6; the first tick may find an old delay, which leaves no more; 0 for a target out of range
unfoldable pub ticks_to_recover : (target : ℕ) → ℕ
ticks_to_recover target = cond (leb 1000 target && leb target 100000) (ticks_until_none 1000 target most_prob) 0

-- the fuel is never used up: no target needs more ticks than the least one
abbrev pub FuelSuffices : Type 0
FuelSuffices = (target : ℕ) → ticks_to_recover target ≤ 502

-- a higher target needs no more ticks
abbrev pub HigherIsSooner : Type 0
HigherIsSooner = (low high : ℕ) → 1000 ≤ low → low ≤ high → ticks_to_recover high ≤ ticks_to_recover low

-- below the range, from its least to its greatest target, and above it
abbrev pub Examples : Type 0
Examples =
    map ticks_to_recover (999 ∷ 1000 ∷ 10000 ∷ 15000 ∷ 100000 ∷ 100001 ∷ [])
    ≡ 0 ∷ 502 ∷ 237 ∷ 197 ∷ 58 ∷ 0 ∷ []

-- ── one tick fewer does not suffice at these targets ──

-- such ticks until one probability is 0, with no allowance, by the tick's own rules, counted up to `fuel`
unfoldable pub ticks_followed : (fuel target p : ℕ) → ℕ
ticks_followed zero target p = 0
ticks_followed (suc fuel) target p = cond (eqb p 0) 0 (suc (ticks_followed fuel target (next_prob p 0 0 0 target)))

-- from 13.6 itself; it is not the start that takes longest
abbrev pub Followed : Type 0
Followed =
    map (λ target. ticks_followed 1000 target most_prob) (1000 ∷ 10000 ∷ 15000 ∷ 100000 ∷ [])
    ≡ 499 ∷ 234 ∷ 192 ∷ 54 ∷ []

-- from starts that take as many as `ticks_to_recover` says
abbrev pub Longest : Type 0
Longest =
    ticks_followed 1000 1000 58178436828 ∷ ticks_followed 1000 10000 57437114911 ∷ ticks_followed 1000 15000 57961764273
    ∷ ticks_followed 1000 100000 56022498368 ∷ []
    ≡ 502 ∷ 237 ∷ 197 ∷ 58 ∷ []
