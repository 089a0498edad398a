-- Q-13: how many ticks in succession, each finding the queue empty, suffice at a given target.
use Rattle.std.specs.Prelude.{◌≡◌, false, cond, ◌&&◌, List, [], ◌∷◌, map, ℕ, zero, suc, ◌≤◌, max, eqb, leb}
use Rattle.units.specs.Kinds.{whole}
use Rattle.pie.specs.Update.{next_prob, table}

-- the end of the row before b's in the table of tick rule 3, the largest of those that b is past; 0 where b is in the first row
unfoldable pub row_before : List (ℕ × ℕ) → (b : ℕ) → ℕ
row_before [] b = 0
row_before ((end, k) ∷ rows) b = cond (leb b end) 0 (max end (row_before rows b))

-- a tick with both delays 0 leaves no more than this of any probability up to b: in b's row no more than it leaves of b, and in the rows
-- before it no more than there was; in either profile, since such a step is never capped
unfoldable pub most_left : (target b : ℕ) → ℕ
most_left target b = max (next_prob false b 0 0 target) (row_before table b)

-- how many such ticks until nothing is left of any probability up to b, counted up to `fuel`
unfoldable pub ticks_until_none : (fuel target b : ℕ) → ℕ
ticks_until_none zero target b = 0
ticks_until_none (suc fuel) target b = cond (eqb b 0) 0 (suc (ticks_until_none fuel target (most_left target b)))

-- the first tick may find an old delay, and leaves it 0: from then on both delays are 0; 0 for a target out of range
unfoldable pub ticks_to_recover : (target : ℕ) → ℕ
ticks_to_recover target = cond (leb 1000 target && leb target 100000) (suc (ticks_until_none 1000 target whole)) 0

-- the fuel is never used up: no target needs more ticks than the least one
abbrev pub FuelSuffices : Type 0
FuelSuffices = (target : ℕ) → ticks_to_recover target ≤ 557

-- a higher target needs no more ticks
abbrev pub HigherIsSooner : Type 0
HigherIsSooner = (low high : ℕ) → 1000 ≤ low → low ≤ high → ticks_to_recover high ≤ ticks_to_recover low

-- below the range, from its least to its greatest target, and above it
abbrev pub Examples : Type 0
Examples =
    map ticks_to_recover (999 ∷ 1000 ∷ 2000 ∷ 5000 ∷ 15000 ∷ 20000 ∷ 50000 ∷ 100000 ∷ 100001 ∷ [])
    ≡ 0 ∷ 557 ∷ 459 ∷ 337 ∷ 212 ∷ 184 ∷ 110 ∷ 71 ∷ 0 ∷ []
