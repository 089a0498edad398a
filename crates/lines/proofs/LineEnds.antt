-- Where a line ends, from the byte at a place on.
use mathlib.Core.Path.{◌≡◌, refl, ap, sym, ◌∙◌}
use mathlib.Core.Bool.{Bool, true, false, cond}
use mathlib.Core.List.{List, [], ◌∷◌}
use Prim.Native.Nat.{ℕ, suc, ◌+◌, ◌≤◌, ◌<◌}
use native.Mathlib.Omega.{arith}
use native.Mathlib.Numerals.{add-one}
use borrow.Author.Tests.{eq-eqb, le-leb, ne_eqb}
use lib.Dec.{eqb}
use lib.ListN.{drop, drop_of_length-le, get_or, length}
use lib.Seq.{drop-cons}
use Rattle.lines.specs.Reader.{after_digits, in_phase, moved, pushed}
use Rattle.lines.specs.Forms.{double_word}
use Rattle.lines.specs.Numbers.{extended, is_digit}
use Rattle.lines.specs.Scan.{Along, line_end, read_on}
use Rattle.lines.specs.declared.Phase.{Phase}
use Rattle.lines.specs.declared.Phase.TheVariants.{Digits}
use Rattle.lines.specs.declared.Reader.{Reader}
use Rattle.lines.specs.declared.Scanned.{Scanned}
use Rattle.lines.proofs.Bytes.{digit_low}

-- a line ends within its bytes
pub line-within : (bytes : List ℕ) → line_end bytes ≤ length bytes
unfolding line_end
line-within [] = omega arith
line-within (b ∷ bytes) = go (eqb b 10) (line-within bytes)
  where
    go : (t : Bool) → line_end bytes ≤ length bytes → cond t 0 (suc (line_end bytes)) ≤ suc (length bytes)
    go true h = omega arith
    go false h = omega arith

module _ (bytes : List ℕ) (i : ℕ) (r : Reader) where
  pub end-at-newline : i < length bytes → get_or bytes i 0 ≡ 10 → line_end (drop i bytes) ≡ 0
  unfolding line_end
  end-at-newline h e = rw (drop-cons bytes i 0 h, eq-eqb (get_or bytes i 0) 10 e)

  pub read-at-newline : i < length bytes → get_or bytes i 0 ≡ 10 → read_on r (drop i bytes) ≡ r
  unfolding read_on
  read-at-newline h e = rw (drop-cons bytes i 0 h, eq-eqb (get_or bytes i 0) 10 e)

  pub end-past : i < length bytes → (get_or bytes i 0 ≡ 10 → ⊥) → line_end (drop i bytes) ≡ suc (line_end (drop (i + 1) bytes))
  unfolding line_end
  end-past h n = rw (drop-cons bytes i 0 h, ne_eqb (get_or bytes i 0) 10 n, add-one i)

  pub read_past : i < length bytes → (get_or bytes i 0 ≡ 10 → ⊥) → read_on r (drop i bytes) ≡ read_on (pushed r (get_or bytes i 0)) (drop (i + 1) bytes)
  unfolding read_on
  read_past h n = rw (drop-cons bytes i 0 h, ne_eqb (get_or bytes i 0) 10 n, add-one i)

  pub end-at-end : length bytes ≤ i → line_end (drop i bytes) ≡ 0
  unfolding line_end
  end-at-end h = rw (drop_of_length-le bytes h)

  pub read-at-end : length bytes ≤ i → read_on r (drop i bytes) ≡ r
  unfolding read_on
  read-at-end h = rw (drop_of_length-le bytes h)

-- ── readers along a line ──

pub along-here : (input : List ℕ) (r : Reader) (at : ℕ) → at ≤ length input → Along input r at (record { reader = r; at = at })
along-here input r at h = record { forward = omega arith; within = h; ends = refl; reads = refl }

pub along_then : (input : List ℕ) (r : Reader) (from : ℕ) (s t : Scanned) → Along input r from s → Along input s.reader s.at t → Along input r from t
along_then input r from s t p q =
    record { forward = omega arith; within = q.within; ends = p.ends ∙ q.ends; reads = p.reads ∙ q.reads }

-- one byte more
pub along-byte : (input : List ℕ) (r : Reader) (at : ℕ) → at < length input → (get_or input at 0 ≡ 10 → ⊥) → Along input r at (record { reader = pushed r (get_or input at 0); at = at + 1 })
along-byte input r at h n =
    let e = end-past input at r h n in
    record { forward = omega arith; within = omega arith; ends = omega arith; reads = read_past input at r h n }

-- a digit on a number that is clear of 64 bits
pub digit-pushed : (r : Reader) (byte : ℕ) → r.phase ≡ Digits → is_digit byte ≡ true → byte ≤ 57 → r.value < 1844674407370955161 → pushed r byte ≡ moved r r.phase (extended r.value byte)
unfolding pushed after_digits
digit-pushed r byte p d b v =
    let low = digit_low byte d in
    let fits : extended r.value byte ≤ double_word = omega arith in
    ap (λ (phase : Phase). in_phase phase r byte) p ∙ rw (d, le-leb (extended r.value byte) double_word fits) (ap (λ (phase : Phase). moved r phase (extended r.value byte)) (sym p))
