-- A reader that has read a byte is not empty.
use mathlib.Core.Path.{◌≡◌, refl, ap}
use mathlib.Core.Bool.{false, cond}
use mathlib.Core.List.{List, [], ◌∷◌, ◌++◌, foldl}
use Prim.Native.Nat.{ℕ, ◌+◌}
use lib.Dec.{eqb, leb, ltb}
use lib.ListN.{drop}
use Rattle.laws.proofs.Choice.{either}
use Rattle.lines.specs.Numbers.{extended, is_digit}
use Rattle.lines.specs.Forms.{double_word}
use Rattle.lines.specs.Reader.{after_digits, after_gap, after_letter, after_start, begun, digit_read, field_read, in_phase, is_empty, moved, no_fields, pushed, reader, spoiled}
use Rattle.lines.specs.declared.Phase.{Phase}
use Rattle.lines.specs.declared.Phase.TheVariants.{Start, Letter, Gap, Digits, Spoiled}
use Rattle.lines.specs.declared.Reader.{Reader}

abbrev Touched : Reader → Type 0
Touched r = is_empty r.phase ≡ false

in-phase : (p : Phase) (r : Reader) (byte : ℕ) → r.phase ≡ p → Touched (in_phase p r byte)
unfolding after_digits after_gap after_letter after_start
in-phase Start r byte e = either Touched (eqb byte 32) (spoiled r) (reader Letter byte 0 0 no_fields) refl refl
in-phase Letter r byte e = either Touched (eqb byte 32) (moved r Gap r.value) (spoiled r) refl refl
in-phase Gap r byte e = either Touched (is_digit byte) (moved r Digits (extended 0 byte)) (spoiled r) refl refl
in-phase Digits r byte e =
    let number = extended r.value byte in
    let next = reader Gap r.letter (r.count + 1) 0 (drop 1 r.fields ++ (r.value ∷ [])) in
    either Touched (is_digit byte) (digit_read r number) (cond (eqb byte 32) (field_read r) (spoiled r))
    (either Touched (leb number double_word) (moved r Digits number) (spoiled r) refl refl)
    (either Touched (eqb byte 32) (field_read r) (spoiled r) (either Touched (ltb r.count 6) next (spoiled r) refl refl) refl)
in-phase Spoiled r byte e = ap is_empty e

touches : (r : Reader) (byte : ℕ) → Touched (pushed r byte)
unfolding pushed
touches r byte = in-phase r.phase r byte refl

stays : (rest : List ℕ) (r : Reader) → Touched r → Touched (foldl pushed r rest)
stays [] r h = h
stays (byte ∷ rest) r h = stays rest (pushed r byte) (touches r byte)

pub not-empty : (byte : ℕ) (rest : List ℕ) → is_empty (foldl pushed begun (byte ∷ rest)).phase ≡ false
not-empty byte rest = stays rest (pushed begun byte) (touches begun byte)
