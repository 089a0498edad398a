-- What is the same: by the library's equality, and as lists.
use mathlib.Core.Path.{◌≡◌, refl, ap}
use mathlib.Core.Bool.{Bool, true, false, ◌&&◌}
use mathlib.Core.List.{List, [], ◌∷◌}
use Prim.Native.Nat.{ℕ, suc}
use lib.Dec.{eqb}
use lib.ListN.{length}
use lib.Pointwise.{pointwise}
use Rattle.laws.proofs.Tests.{and_right}
use Rattle.log_codec.specs.declared.Header.{Header}
use Rattle.log_codec.specs.declared.Record.{Record}
use Rattle.compare.specs.Compare.{same, same_record, same_settings}

pub and-true : (a : Bool) → a && true ≡ a
and-true true = refl
and-true false = refl

-- equality as the library finds it
pub list-same : (a b : List ℕ) → pointwise eqb a b ≡ same a b
list-same [] [] = refl
list-same [] (b ∷ bs) = refl
list-same (a ∷ as₁) [] = refl
list-same (a ∷ as₁) (b ∷ bs) = ap (λ (t : Bool). eqb a b && t) (list-same as₁ bs)

pub header-same : (a b : Header) →
    eqb a.target b.target && (eqb a.buffer b.buffer && (eqb a.slots b.slots && (eqb a.clock b.clock && (eqb a.profile b.profile && eqb a.unused b.unused))))
    ≡ same_settings a b
unfolding same_settings
header-same a b = simp (and-true)

pub record-same : (a b : Record) →
    eqb a.kind b.kind
    && (eqb a.ecn b.ecn
    && (eqb a.unused b.unused
    && (eqb a.handle b.handle
    && (eqb a.clock b.clock
    && (eqb a.size b.size && (eqb a.u b.u && (eqb a.verdict b.verdict && (eqb a.bytes b.bytes && eqb a.prob b.prob))))))))
    ≡ same_record a b
unfolding same_record
record-same a b = simp (and-true)

-- lists that are the same are of one length
pub same-length : (a b : List ℕ) → same a b ≡ true → length a ≡ length b
same-length [] [] e = refl
same-length [] (b ∷ bs) e = absurd (cc)
same-length (a ∷ as₁) [] e = absurd (cc)
same-length (a ∷ as₁) (b ∷ bs) e = ap suc (same-length as₁ bs (and_right (eqb a b) (same as₁ bs) e))
