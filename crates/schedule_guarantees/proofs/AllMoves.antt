-- How many moves are left at most where it isn't known that a listed flow has a packet: 64 × 45.
use mathlib.Core.Path.{◌≡◌, refl}
use mathlib.Core.Bool.{Bool, true, false, cond}
use mathlib.Core.List.{List}
use Prim.Native.Nat.{ℕ, ◌+◌, ◌≤◌}
use native.Mathlib.Omega.{arith}
use lib.ListN.{get_or, length}
use borrow.Author.Tests.{ltb-false}
use Rattle.schedule.specs.Choosing.{has_none, owes}
use Rattle.schedule.specs.TwoLists.{TwoLists, zero_deficit}
use Rattle.schedule_guarantees.proofs.Measure.{moves_left, new_weight, old_weight, quanta, weights-high}

module _ (counts ds : List ℕ) (x : ℕ) where
  old-most : old_weight counts ds x ≤ 45
  old-most = go (has_none counts x)
    where
      go : (b : Bool) → quanta (get_or ds x 0) + cond b 1 0 ≤ 45
      go true = omega arith
      go false = omega arith

  new-most : new_weight counts ds x ≤ 45
  new-most = go (has_none counts x) (owes ds x) refl
    where
      go : (b c : Bool) → owes ds x ≡ c → quanta (get_or ds x 0) + cond b (cond c 1 2) 0 ≤ 45
      go true true e = omega arith
      go true false e = omega (arith, ltb-false (get_or ds x 0) zero_deficit e)
      go false c e = omega arith

pub all-moves-high : (counts : List ℕ) (l : TwoLists) → length l.new + length l.old ≤ 64 → moves_left counts l ≤ 2880
unfolding moves_left
all-moves-high counts l room =
    omega (
      arith,
      weights-high (new_weight counts l.deficits) l.new (new-most counts l.deficits),
      weights-high (old_weight counts l.deficits) l.old (old-most counts l.deficits),
    )
