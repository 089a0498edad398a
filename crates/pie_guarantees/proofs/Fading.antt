-- Ticks that find the queue empty bring the probability to 0.
use mathlib.Core.Path.{◌≡◌, refl}
use mathlib.Core.Bool.{Bool}
use Prim.Native.Nat.{ℕ, zero, suc, ◌≤◌, ◌<◌}
use native.Mathlib.Nat.{zero-mul}
use native.Mathlib.Omega.{arith}
use Rattle.units.specs.Kinds.{whole}
use Rattle.pie.specs.Start.{restarted}
use Rattle.pie.specs.Update.{capped, decayed, delay_of, divisor_of, error_of, limited, lookup, next_prob, step_of, updated}
use Rattle.pie.specs.declared.Pie.{Pie}
use Rattle.pie.proofs.Ranges.{next-prob-le}
use Rattle.pie_guarantees.specs.Fading.{Fading, FadesWithin, times}
use Rattle.pie_guarantees.specs.TicksToRecover.{most_left, row_before}
use Rattle.pie_guarantees.proofs.Bound.{bound, bound-next, bound-stays}

-- after n ticks in succession that each found the queue empty
pub record Within (least n : ℕ) (pie : Pie) : Type 0 where
  pub prob-high : pie.prob.0 ≤ bound least n
  pub old-none : 0 < n → pie.old.0 ≡ 0

pub none_yet : (least : ℕ) (pie : Pie) → pie.prob.0 ≤ whole → Within least 0 pie
unfolding bound
none_yet least pie h = record { prob-high = h; old-none = λ l. absurd (omega arith) }

pub no-delay : (average : ℕ) → delay_of 0 average ≡ 0
unfolding delay_of
no-delay average = rw zero-mul

next-within : (calm : Bool) (least target n p old : ℕ) → least ≤ target → p ≤ bound least n → (0 < n → old ≡ 0) →
    next_prob calm p 0 old target ≤ bound least (suc n)
unfolding bound
next-within calm least target zero p old h l o = next-prob-le calm p 0 old target
next-within calm least target (suc n) p old h l o = rw (o (omega arith)) (bound-next calm least target n p h l)

pub updated-prob-le : (pie : Pie) (calm : Bool) (target bytes : ℕ) → (updated pie calm target bytes).prob.0 ≤ whole
unfolding updated
updated-prob-le pie calm target bytes = next-prob-le calm pie.prob.0 (delay_of bytes pie.rate.average.0) pie.old.0 target

-- an algorithm that begins anew has no probability and no old delay
pub restarted-within : (least n : ℕ) → Within least n restarted
restarted-within least n = record { prob-high = omega arith; old-none = λ l. refl }

-- one tick more on an empty queue
pub one_more : (calm : Bool) (least target n : ℕ) (pie : Pie) → least ≤ target → Within least n pie →
    Within least (suc n) (updated pie calm target 0)
unfolding updated
one_more calm least target n pie h w =
    let none = no-delay pie.rate.average.0 in
    record {
      prob-high = rw none (next-within calm least target n pie.prob.0 pie.old.0 h w.prob-high w.old-none);
      old-none = λ _. none;
    }

all-within : (calm : Bool) (least target n : ℕ) (pie : Pie) → least ≤ target → pie.prob.0 ≤ whole →
    Within least n (times n (λ q. updated q calm target 0) pie)
unfolding times
all-within calm least target zero pie h l = none_yet least pie l
all-within calm least target (suc n) pie h l =
    one_more calm least target n (times n (λ q. updated q calm target 0) pie) h (all-within calm least target n pie h l)

-- where the bound is 0, so is the probability
pub faded : (least ticks n : ℕ) (pie : Pie) → bound least ticks ≡ 0 → ticks ≤ n → Within least n pie → pie.prob.0 ≡ 0
faded least ticks n pie e h w = omega (arith, bound-stays least ticks n h e)

-- and that takes two ticks at least
pub two-or-more : (least ticks : ℕ) → bound least ticks ≡ 0 → 2 ≤ ticks
unfolding bound
two-or-more least zero e = absurd (omega arith)
two-or-more least (suc zero) e = absurd (omega arith)
two-or-more least (suc (suc n)) e = omega arith

pub fades-within : (ticks least : ℕ) → bound least ticks ≡ 0 → FadesWithin ticks least
fades-within ticks least e pie calm target h l =
    faded least ticks ticks (times ticks (λ q. updated q calm target 0) pie) e (omega arith) (all-within calm least target ticks pie l h)

pub fading : Fading
unfolding bound capped decayed divisor_of error_of limited lookup most_left next_prob row_before step_of
fading = fades-within _ _ refl
