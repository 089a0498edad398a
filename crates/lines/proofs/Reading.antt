-- Reading byte by byte is reading whole: by induction on the rest of the line, for any reader within a field or before one,
-- and for anything that makes no command of no numbers, of more than seven, or of one past 64 bits.
use mathlib.Core.Path.{◌≡◌, refl, sym, ap, ◌∙◌}
use mathlib.Core.Bool.{Bool, true, false, cond, ◌&&◌}
use mathlib.Core.List.{List, [], ◌∷◌, ◌++◌, append_assoc, foldl, map}
use Prim.Native.Nat.{ℕ, ◌+◌, ◌-◌, ◌≤◌, ◌<◌}
use native.Mathlib.Omega.{arith}
use borrow.Author.Tests.{leb-false, ltb-false, ltb-true}
use lib.Dec.{eqb, leb, ltb}
use lib.ListN.{drop, length, length-append, length-drop}
use Rattle.std.proofs.Common.{drop-drop}
use Rattle.std.proofs.lemmas.List.{drop-append-le}
use Rattle.lines.specs.Numbers.{are_digits, extended, is_digit, is_number, value_of}
use Rattle.lines.specs.Words.{Words, parted, words_of}
use Rattle.lines.specs.Forms.{double_word, formed}
use Rattle.lines.specs.Line.{are_numbers, line_read, words_read}
use Rattle.lines.specs.Incremental.{ReadsAnyLines}
use Rattle.lines.specs.Reader.{after_digits, after_gap, after_letter, after_start, begun, command_read, no_fields, pushed, reader}
use Rattle.lines.specs.declared.Phase.TheVariants.{Letter, Gap, Digits, Spoiled}
use Rattle.lines.proofs.NoForm.{Rejects, both-same, rejects}
use Rattle.lines.proofs.Bytes.{digit-no-space}

-- ── numbers kept ──

abbrev kept : (k : ℕ) (fs : List ℕ) → List ℕ
kept k fs = drop (6 - k) fs

kept_next : (k v : ℕ) (fs : List ℕ) → length fs ≡ 6 → k < 6 → kept (k + 1) (drop 1 fs ++ (v ∷ [])) ≡ kept k fs ++ (v ∷ [])
kept_next k v fs six h =
    let n : 6 - k ≡ 1 + (6 - (k + 1)) = omega arith in
    let low : 6 - (k + 1) ≤ length (drop 1 fs) = simp length-drop (omega arith) in
    rw (drop-append-le (6 - (k + 1)) (drop 1 fs) (v ∷ []) low, n, drop-drop)

kept-last : (k v : ℕ) (fs : List ℕ) → length fs ≡ 6 → drop (6 - k) (fs ++ (v ∷ [])) ≡ kept k fs ++ (v ∷ [])
kept-last k v fs six = drop-append-le (6 - k) fs (v ∷ []) (omega arith)

shifted : (v : ℕ) (fs : List ℕ) → length fs ≡ 6 → length (drop 1 fs ++ (v ∷ [])) ≡ 6
shifted v fs six = simp (length-append, length-drop) (omega arith)

grows : (word : List ℕ) (v : ℕ) → v ≤ foldl extended v word
grows [] v = omega arith
grows (b ∷ word) v = let h = grows word (extended v b) in omega arith

module _ {Command : Type 0} (bad : Command) (make : ℕ → List ℕ → Command) (no : Rejects bad make) where
  -- ── what the rest of a line makes, with these numbers read ──

  -- before a field
  abbrev gap_read : (letter : ℕ) (read : List ℕ) → Words → Command
  gap_read letter read words =
      cond (is_number words.0 && are_numbers words.1) (make letter (read ++ (value_of words.0 ∷ map value_of words.1))) bad

  -- within a field
  abbrev digits_read : (letter : ℕ) (read : List ℕ) (value : ℕ) → Words → Command
  digits_read letter read value words =
      cond (are_digits words.0 && are_numbers words.1) (make letter (read ++ (foldl extended value words.0 ∷ map value_of words.1))) bad

  -- ── the induction ──

  spoiled-stays : (rest : List ℕ) (l k v : ℕ) (fs : List ℕ) → command_read bad make (foldl pushed (reader Spoiled l k v fs) rest) ≡ bad
  unfolding command_read pushed
  spoiled-stays [] l k v fs = refl
  spoiled-stays (x ∷ rest) l k v fs = spoiled-stays rest l k v fs

  abbrev AtGap : List ℕ → Type 0
  AtGap rest = (l k v : ℕ) (fs : List ℕ) → length fs ≡ 6 → command_read bad make (foldl pushed (reader Gap l k v fs) rest) ≡ gap_read l (kept k fs) (words_of rest)

  abbrev AtDigits : List ℕ → Type 0
  AtDigits rest = (l k v : ℕ) (fs : List ℕ) → length fs ≡ 6 → command_read bad make (foldl pushed (reader Digits l k v fs) rest) ≡ digits_read l (kept k fs) v (words_of rest)

  gap_step : (x : ℕ) (rest : List ℕ) → AtDigits rest → AtGap (x ∷ rest)
  unfolding command_read pushed after_gap words_of
  gap_step x rest ih l k v fs six = digit (is_digit x) refl
    where
      other : (t : Bool) → eqb x 32 ≡ t → is_digit x ≡ false → bad ≡ gap_read l (kept k fs) (parted (eqb x 32) x (words_of rest))
      other true s e = rw s
      other false s e = rw (s, e)

      digit : (t : Bool) → is_digit x ≡ t → command_read bad make (foldl pushed (after_gap (reader Gap l k v fs) x) rest) ≡ gap_read l (kept k fs) (parted (eqb x 32) x (words_of rest))
      digit true e = rw (digit-no-space x e, e) (ih l k (extended 0 x) fs six)
      digit false e = rw e (spoiled-stays rest l k v fs) ∙ other (eqb x 32) refl e

  -- one digit more
  digit-step : (x : ℕ) (rest : List ℕ) → AtDigits rest → is_digit x ≡ true → AtDigits (x ∷ rest)
  unfolding pushed after_digits words_of
  digit-step x rest ih e l k v fs six = fits (leb (extended v x) double_word) refl
    where
      fits : (t : Bool) → leb (extended v x) double_word ≡ t → command_read bad make (foldl pushed (after_digits (reader Digits l k v fs) x) rest) ≡ digits_read l (kept k fs) v (parted (eqb x 32) x (words_of rest))
      fits true t = rw (digit-no-space x e, e, t) (ih l k (extended v x) fs six)
      fits false t =
          let w = words_of rest in
          let big = leb-false (extended v x) double_word t in
          let more = grows w.0 (extended v x) in
          let none = no.large l (kept k fs) (map value_of w.1) (foldl extended (extended v x) w.0) (omega arith) in
          rw (digit-no-space x e, e, t) (spoiled-stays rest l k v fs ∙ sym (both-same (are_digits w.0 && are_numbers w.1) _ _ bad none refl))

  -- the space behind a field
  space-step : (x : ℕ) (rest : List ℕ) → AtGap rest → is_digit x ≡ false → eqb x 32 ≡ true → AtDigits (x ∷ rest)
  unfolding pushed after_digits words_of
  space-step x rest gap e s l k v fs six = another (ltb k 6) refl
    where
      another : (t : Bool) → ltb k 6 ≡ t → command_read bad make (foldl pushed (after_digits (reader Digits l k v fs) x) rest) ≡ digits_read l (kept k fs) v (parted (eqb x 32) x (words_of rest))
      another true t =
          let w = words_of rest in
          let below = ltb-true k 6 t in
          let same = kept_next k v fs six below in
          rw (e, s, t) (gap l (k + 1) 0 (drop 1 fs ++ (v ∷ [])) (shifted v fs six) ∙ rw (same, append_assoc))
      another false t =
          let w = words_of rest in
          let above = ltb-false k 6 t in
          let all = kept k fs ++ (v ∷ value_of w.0 ∷ map value_of w.1) in
          let long : 7 < length all = simp (length-append, length-drop) (omega arith) in
          rw (e, s, t) (spoiled-stays rest l k v fs ∙ sym (both-same (is_number w.0 && are_numbers w.1) _ _ bad (no.many l all long) refl))

  digits_step : (x : ℕ) (rest : List ℕ) → AtGap rest → AtDigits rest → AtDigits (x ∷ rest)
  digits_step x rest gap ih = digit (is_digit x) refl
    where
      neither : is_digit x ≡ false → eqb x 32 ≡ false → AtDigits (x ∷ rest)
      neither e s l k v fs six = unfold pushed after_digits words_of in rw (s, e) (spoiled-stays rest l k v fs)

      space : (t : Bool) → eqb x 32 ≡ t → is_digit x ≡ false → AtDigits (x ∷ rest)
      space true s e = space-step x rest gap e s
      space false s e = neither e s

      digit : (t : Bool) → is_digit x ≡ t → AtDigits (x ∷ rest)
      digit true e = digit-step x rest ih e
      digit false e = space (eqb x 32) refl e

  claims : (rest : List ℕ) → AtGap rest × AtDigits rest
  unfolding command_read words_of
  claims [] = (λ l k v fs six. refl, λ l k v fs six. ap (make l) (kept-last k v fs six))
  claims (x ∷ rest) =
      let ih = claims rest in
      (gap_step x rest ih.1, digits_step x rest ih.0 ih.1)

  -- ── the first word ──

  letter-step : (x : ℕ) (rest : List ℕ) → command_read bad make (foldl pushed (reader Letter x 0 0 no_fields) rest) ≡ words_read bad make (x ∷ (words_of rest).0) (words_of rest).1
  unfolding command_read pushed after_letter words_of
  letter-step x [] = sym (no.few x)
  letter-step x (y ∷ rest) = space (eqb y 32) refl
    where
      space : (t : Bool) → eqb y 32 ≡ t → command_read bad make (foldl pushed (after_letter (reader Letter x 0 0 no_fields) y) rest) ≡ words_read bad make (x ∷ (parted (eqb y 32) y (words_of rest)).0) (parted (eqb y 32) y (words_of rest)).1
      space true s = rw s ((claims rest).0 x 0 0 no_fields refl)
      space false s = rw s (spoiled-stays rest x 0 0 no_fields)

  reads : (line : List ℕ) → command_read bad make (foldl pushed begun line) ≡ line_read bad make line
  unfolding command_read pushed after_start words_of
  reads [] = refl
  reads (x ∷ rest) = space (eqb x 32) refl
    where
      space : (t : Bool) → eqb x 32 ≡ t → command_read bad make (foldl pushed (after_start begun x) rest) ≡ words_read bad make (parted (eqb x 32) x (words_of rest)).0 (parted (eqb x 32) x (words_of rest)).1
      space true s = rw s (spoiled-stays rest 0 0 0 no_fields)
      space false s = rw s (letter-step x rest)

pub reads-any-lines : ReadsAnyLines
reads-any-lines Command bad forms e = reads bad (formed bad forms) (rejects bad forms e)
