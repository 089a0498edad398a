-- What the tests that a call makes say of its rows of the table of refusals.
use mathlib.Core.Path.{◌≡◌, refl, sym}
use mathlib.Core.Bool.{Bool, true, false}
use mathlib.Core.List.{[], ◌∷◌}
use Prim.Native.Nat.{ℕ, ◌<◌}
use native.Mathlib.Omega.{arith}
use Rattle.std.specs.Prelude.{cond, Ok, ⊤}
use Rattle.laws.proofs.TestLists.{false_of}
use Rattle.pie.specs.Constants.{most_verdicts}
use Rattle.pie.specs.Verdicts.{total}
use Rattle.refusals.specs.Answer.{refused_where}
use Rattle.refusals.specs.Numbers.{refusal_in}
use Rattle.refusals.specs.Rows.{first_refusal}
use Rattle.refusals.specs.declared.Refusal.{Refusal}
use Rattle.refusals.specs.declared.Refusal.TheVariants.{Empty, Head}
use Rattle.ring.specs.State.{well_formed}
use Rattle.ring.specs.declared.State.{State}
use Rattle.ring.proofs.Facts.{facts}

-- the counts, which are tested first
pub uncounted : (s : State) → most_verdicts < total s.verdicts → well_formed s ≡ false
uncounted s h = sym (false_of (well_formed s) (λ w. let f = facts s w in omega (arith, f.total-high)))

-- a test that gives no refusal fails
pub passed : (test : Bool) (r : Refusal) (x : ⊤) → refused_where test r ≡ Ok x → test ≡ false
passed true r x e = absurd cc
passed false r x e = refl

-- what the two tests of a head give, as rows
pub heads : (empty wrong : Bool) →
    refusal_in (cond empty (refused_where empty Empty) (refused_where wrong Head)) ≡ first_refusal ((6, empty) ∷ (9, wrong) ∷ [])
heads true wrong = refl
heads false true = refl
heads false false = refl
