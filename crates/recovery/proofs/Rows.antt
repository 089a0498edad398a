-- What a tick on an empty queue leaves, and the end of the row before a probability's.
use mathlib.Core.Path.{◌≡◌}
use mathlib.Core.Bool.{false}
use mathlib.Core.List.{List, [], ◌∷◌}
use Prim.Native.Nat.{ℕ, ◌≤◌}
use native.Mathlib.Omega.{arith}
use borrow.Author.Tests.{leb-false}
use lib.Dec.{leb}
use Rattle.laws.proofs.Choice.{at-cond}
use Rattle.pie.specs.Update.{next_prob, updated}
use Rattle.pie.specs.declared.Pie.{Pie}
use Rattle.pie_guarantees.specs.TicksToRecover.{row_before}
use Rattle.pie_guarantees.proofs.Fading.{no-delay}

-- the tick's own update on an empty queue
pub left_after : (pie : Pie) (target : ℕ) → pie.old.0 ≡ 0 →
    (updated pie false target 0).prob.0 ≡ next_prob false pie.prob.0 0 0 target
unfolding updated
left_after pie target e = rw (no-delay pie.rate.average.0, e)

pub below : (rows : List (ℕ × ℕ)) (b : ℕ) → row_before rows b ≤ b
unfolding row_before
below [] b = omega arith
below ((end, k) ∷ rows) b =
    at-cond (λ n. n ≤ b) (leb b end)
    (λ e. omega arith)
    (λ e. omega (arith, leb-false b end e, below rows b))
