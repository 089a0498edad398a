-- The spare slots are the used ones that hold no packet.
use mathlib.Core.Path.{◌≡◌, refl}
use mathlib.Core.Bool.{Bool, true, false}
use Prim.Native.Nat.{ℕ, ◌+◌, ◌-◌, ◌≤◌}
use native.Mathlib.Omega.{arith}
use borrow.Author.Tests.{eq-eqb, eqb-false, eqb-true, ne_eqb}
use lib.Dec.{eqb}

pub spare-is : (held spare used : ℕ) → held ≤ used → eqb spare (used - held) ≡ eqb (held + spare) used
spare-is held spare used h = go (eqb (held + spare) used) refl
  where
    go : (b : Bool) → eqb (held + spare) used ≡ b → eqb spare (used - held) ≡ b
    go true e = eq-eqb spare (used - held) (omega (arith, eqb-true (held + spare) used e))
    go false e = ne_eqb spare (used - held) (λ (z : spare ≡ used - held). eqb-false (held + spare) used e (omega arith))
