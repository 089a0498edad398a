-- What it says that a runner has not stopped.
use mathlib.Core.Path.{◌≡◌}
use mathlib.Core.Bool.{false, ◌||◌}
use Prim.Native.Nat.{ℕ, ◌-◌, ◌<◌, ◌≤◌, ◌+◌}
use native.Mathlib.Omega.{arith}
use borrow.Author.Tests.{eqb-false, ltb-false}
use lib.Dec.{eqb, ltb}
use Rattle.laws.proofs.Tests.{or-neither}
use Rattle.script.specs.Feeding.{has_ended, room, stops}
use Rattle.script.specs.declared.Stage.{Stage}

module _ (taken n : ℕ) (stage : Stage) (w o : ℕ) (e : stops taken n stage w o ≡ false) where
  pub input-left : taken ≤ n → taken < n
  input-left h =
      let k = (or-neither (eqb taken n) (has_ended stage) (or-neither (eqb taken n || has_ended stage) (ltb (o - w) room) e).0).0 in
      let differ = eqb-false taken n k in
      omega arith

  pub room-left : w ≤ o → w + room ≤ o
  room-left h =
      let k = ltb-false (o - w) room (or-neither (eqb taken n || has_ended stage) (ltb (o - w) room) e).1 in
      omega arith
