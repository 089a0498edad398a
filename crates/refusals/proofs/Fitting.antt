-- What the failing of refusals 7 and 9 says.
use mathlib.Core.Path.{◌≡◌}
use mathlib.Core.Bool.{false, ◌||◌}
use mathlib.Core.Logic.{◌≢◌}
use Prim.Native.Nat.{ℕ, ◌-◌, ◌*◌, ◌≤◌}
use native.Mathlib.Omega.{arith}
use lib.Dec.{eqb, ltb}
use borrow.Author.Tests.{eqb-false, le-ltb, ltb-false, ne_eqb}
use Rattle.laws.proofs.Tests.{or-neither}
use Rattle.pie.specs.Constants.{largest}
use Rattle.pie.specs.declared.Backlog.{Backlog}
use Rattle.refusals.specs.Tests.{head_refused, size_refused}

pub size-in-range : (size : ℕ) → size_refused size ≡ false → (1 ≤ size) × (size ≤ largest)
size-in-range size e =
    let n = or-neither (eqb size 0) (ltb largest size) e in
    let some : size ≢ 0 = eqb-false size 0 n.0 in
    (omega arith, ltb-false _ _ n.1)

pub record HeadFits (b : Backlog) (size : ℕ) : Type 0 where
  pub low : 1 ≤ size
  pub high : size ≤ largest
  pub fits : size ≤ b.bytes.0
  pub left-low : b.count - 1 ≤ b.bytes.0 - size
  pub left-high : b.bytes.0 - size ≤ largest * (b.count - 1)

pub head-fits : (b : Backlog) (size : ℕ) → head_refused b size ≡ false → HeadFits b size
unfolding head_refused
head-fits b size e =
    let wrong = size_refused size in
    let over = ltb b.bytes.0 size in
    let below = ltb (b.bytes.0 - size) (b.count - 1) in
    let above = ltb (largest * (b.count - 1)) (b.bytes.0 - size) in
    let n = or-neither (wrong || over || below) above e in
    let m = or-neither (wrong || over) below n.0 in
    let l = or-neither wrong over m.0 in
    let range = size-in-range size l.0 in
    record { low = range.0; high = range.1; fits = ltb-false _ _ l.1; left-low = ltb-false _ _ m.1; left-high = ltb-false _ _ n.1 }

-- and back
pub fitting-head : (b : Backlog) (size : ℕ) → HeadFits b size → head_refused b size ≡ false
unfolding head_refused
fitting-head b size f =
    rw (
      ne_eqb size 0 (omega (arith, f.low)),
      le-ltb largest size f.high,
      le-ltb b.bytes.0 size f.fits,
      le-ltb (b.bytes.0 - size) (b.count - 1) f.left-low,
      le-ltb (largest * (b.count - 1)) (b.bytes.0 - size) f.left-high,
    )
