-- What a tick makes of the probability where the queue is empty and was so at the last tick, in natural numbers, by either profile: the
-- step is not above 0, so that the calm profile's cap does not act.
use mathlib.Core.Path.{◌≡◌}
use mathlib.Core.Bool.{Bool, true}
use mathlib.Core.Logic.{⊎_elim}
use Prim.Native.Nat.{ℕ, ◌-◌, ◌/◌, min}
use native.Mathlib.Omega.{arith}
use lib.IntN.{pos, ◌-ℤ◌}
use Rattle.units.specs.Kinds.{whole}
use Rattle.pie.specs.Update.{decayed, divisor_of, limited, next_prob}
use Rattle.pie.proofs.IdleStep.{capped-empty, fall, le-or-lt, sub-below}
use Rattle.pie.proofs.Ints.{pos-minus}

-- what rule 5 leaves of it
abbrev pub kept : ℕ → ℕ
kept n = n - n / 64

lowered : (p s : ℕ) → limited (decayed true (pos p -ℤ pos s)) ≡ min (kept (p - s)) whole
unfolding limited decayed
lowered p s =
    ⊎_elim
    (λ h. rw (pos-minus p s h))
    (λ h. let none : p - s ≡ 0 = omega arith in rw (sub-below p s h, none))
    (le-or-lt s p)

pub next-empty : (calm : Bool) (p target : ℕ) → next_prob calm p 0 0 target ≡ min (kept (p - fall target (divisor_of p))) whole
unfolding next_prob
next-empty calm p target = rw (capped-empty calm p target (divisor_of p)) (lowered p (fall target (divisor_of p)))
