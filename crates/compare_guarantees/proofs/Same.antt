-- The tests of sameness are equality.
use mathlib.Core.Path.{◌≡◌, refl, sym, ap, ap₂, ◌∙◌}
use mathlib.Core.Bool.{Bool, true, false, false≢true}
use mathlib.Core.Logic.{◌≢◌}
use mathlib.Core.List.{List, [], ◌∷◌}
use Prim.Native.Nat.{ℕ}
use lib.Dec.{eqb}
use borrow.Author.Tests.{eq-eqb, eqb-true}
use Rattle.laws.proofs.Tests.{and_left, and_right}
use Rattle.log_codec.specs.Headers.{header_fields, header_of}
use Rattle.log_codec.specs.Records.{fields_of, record_of}
use Rattle.log_codec.specs.declared.Header.{Header}
use Rattle.log_codec.specs.declared.Record.{Record}
use Rattle.compare.specs.Compare.{same, same_record, same_settings}

pub same_true : (a b : List ℕ) → same a b ≡ true → a ≡ b
same_true [] [] e = refl
same_true [] (b ∷ bs) e = absurd (false≢true e)
same_true (a ∷ l) [] e = absurd (false≢true e)
same_true (a ∷ l) (b ∷ bs) e =
    ap₂ ◌∷◌ (eqb-true a b (and_left (eqb a b) (same l bs) e)) (same_true l bs (and_right (eqb a b) (same l bs) e))

pub same_self : (a : List ℕ) → same a a ≡ true
same_self [] = refl
same_self (a ∷ l) = rw (eq-eqb a a refl, same_self l)

-- a test that holds exactly of equal things fails of unequal ones
fails : (t : Bool) → (t ≡ true → ⊥) → t ≡ false
fails true h = absurd (h refl)
fails false h = refl

pub same_false : (a b : List ℕ) → a ≢ b → same a b ≡ false
same_false a b h = fails (same a b) (λ e. h (same_true a b e))

pub record-true : (a b : Record) → same_record a b ≡ true → a ≡ b
unfolding same_record
record-true a b e = ap record_of (same_true (fields_of a) (fields_of b) e)

pub record-self : (a : Record) → same_record a a ≡ true
unfolding same_record
record-self a = same_self (fields_of a)

pub record-false : (a b : Record) → a ≢ b → same_record a b ≡ false
record-false a b h = fails (same_record a b) (λ e. h (record-true a b e))

-- and where the test fails, they are unequal
pub unequal : (a b : Record) → same_record a b ≡ false → a ≢ b
unequal a b e f = false≢true (sym e ∙ ap (same_record a) (sym f) ∙ record-self a)

pub notes-unequal : (a b : List ℕ) → same a b ≡ false → a ≢ b
notes-unequal a b e f = false≢true (sym e ∙ ap (same a) (sym f) ∙ same_self a)

pub settings-true : (a b : Header) → same_settings a b ≡ true → a ≡ b
unfolding same_settings
settings-true a b e = ap header_of (same_true (header_fields a) (header_fields b) e)

pub settings-self : (a : Header) → same_settings a a ≡ true
unfolding same_settings
settings-self a = same_self (header_fields a)

pub settings-false : (a b : Header) → a ≢ b → same_settings a b ≡ false
settings-false a b h = fails (same_settings a b) (λ e. h (settings-true a b e))

pub settings-unequal : (a b : Header) → same_settings a b ≡ false → a ≢ b
settings-unequal a b e f = false≢true (sym e ∙ ap (same_settings a) (sym f) ∙ settings-self a)
