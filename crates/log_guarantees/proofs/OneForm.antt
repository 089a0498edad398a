-- Any log that reads whole is, byte for byte, its settings, note, records and trailer.
use mathlib.Core.Path.{◌≡◌, refl, sym, ap, ap₂, ◌∙◌}
use mathlib.Core.List.{List, [], ◌∷◌, ◌++◌}
use Prim.Native.Nat.{ℕ, zero, suc, ◌+◌, ◌*◌, ◌-◌, ◌≤◌}
use native.Mathlib.Omega.{arith}
use lib.ListN.{drop, length, length-drop, take, take-append-drop}
use lib.Seq.{drop-drop, take-add, take_all}
use Rattle.log_codec.specs.Fields.{AreBytes, joined}
use Rattle.log_codec.specs.Headers.{encoded_header}
use Rattle.log_codec.specs.Numbers.{number_of}
use Rattle.log_codec.proofs.RoundTrip.{header-writes-back, joined-parted, writes-back}
use Rattle.call_log.specs.Layout.{count_in, header_in, letters, letters_in, note_in, offset_in, records_from, records_in, size_in, trailer_of}
use Rattle.call_log.specs.Whole.{Contents}
use Rattle.call_log.proofs.Contents.{is_whole}
use Rattle.call_log.proofs.Facts.{Sound, sound}
use Rattle.call_log.proofs.Records.{length-note, length-records}
use Rattle.log_guarantees.specs.AlwaysWhole.{bytes_of, encoded_all}
use Rattle.log_guarantees.specs.OneForm.{OneForm}

-- records that were read, as bytes again
pub read-encoded : (n : ℕ) (l : List ℕ) (at : ℕ) → AreBytes l → at + 40 * n ≤ length l →
    encoded_all (records_from n l at) ≡ take (40 * n) (drop at l)
read-encoded zero l at b h = refl
read-encoded (suc n) l at b h =
    let e : 40 + 40 * n ≡ 40 * suc n = omega arith in
    ap₂ ◌++◌ (writes-back l at b (omega arith)) (read-encoded n l (at + 40) b (omega arith))
    ∙ ap (λ (m : List ℕ). take 40 (drop at l) ++ take (40 * n) m) (sym (drop-drop 40 at l))
    ∙ sym (take-add 40 (40 * n) (drop at l))
    ∙ ap (λ (k : ℕ). take k (drop at l)) e

-- the trailer's four numbers
abbrev fours : List ℕ
fours = 4 ∷ 4 ∷ 4 ∷ 4 ∷ []

trailer-joined : (a b c d : ℕ) → c ≡ 40 → d ≡ number_of letters → trailer_of a b ≡ joined fours (a ∷ b ∷ c ∷ d ∷ [])
unfolding trailer_of
trailer-joined a b c d e f = rw (e, f)

module _ (l : List ℕ) (b : AreBytes l) (s : Sound l) where
  abbrev p : ℕ
  p = length l - 16

  trailer-is : trailer_of (offset_in l) (count_in l) ≡ drop p l
  trailer-is =
      let at_count : length l - 12 ≡ p + 4 = omega (arith, s.long) in
      let at_size : length l - 8 ≡ p + 4 + 4 = omega (arith, s.long) in
      let at-letters : length l - 4 ≡ p + 4 + 4 + 4 = omega (arith, s.long) in
      trailer-joined (offset_in l) (count_in l) (size_in l) (letters_in l) s.size s.lettered
      ∙ ap₂ (λ (c d : ℕ). joined fours (offset_in l ∷ c ∷ d ∷ letters_in l ∷ []))
      (ap (λ (k : ℕ). number_of (take 4 (drop k l))) at_count)
      (ap (λ (k : ℕ). number_of (take 4 (drop k l))) at_size)
      ∙ ap (λ (d : ℕ). joined fours (offset_in l ∷ number_of (take 4 (drop (p + 4) l)) ∷ number_of (take 4 (drop (p + 4 + 4) l)) ∷ d ∷ []))
      (ap (λ (k : ℕ). number_of (take 4 (drop k l))) at-letters)
      ∙ joined-parted fours l p b (omega (arith, s.long))
      ∙ take_all 16 (drop p l) (rw (length-drop p l) (omega (arith, s.long)))

  whole : bytes_of (header_in l) (note_in l) (records_in l) ≡ l
  whole =
      let o = offset_in l in
      let n = count_in l in
      let h = encoded_header (header_in l) in
      let note = note_in l in
      let rs = encoded_all (records_in l) in
      let t = trailer_of o n in
      let up : 32 + (o - 32) ≡ o = omega (arith, s.low) in
      let end : p ≡ o + 40 * n = omega (arith, s.whole) in
      ap₂ (λ (a c : ℕ). h ++ note ++ rs ++ trailer_of a c) (length-note l s) (length-records n l o)
      ∙ ap (λ (x : List ℕ). x ++ note ++ rs ++ t) (header-writes-back l 0 b (omega (arith, s.long)))
      ∙ ap (λ (x : List ℕ). x ++ rs ++ t) (sym (take-add 32 (o - 32) l) ∙ ap (λ (k : ℕ). take k l) up)
      ∙ ap (λ (x : List ℕ). take o l ++ x ++ t) (read-encoded n l o b (omega (arith, s.whole)))
      ∙ ap (λ (x : List ℕ). x ++ t) (sym (take-add o (40 * n) l))
      ∙ ap (λ (x : List ℕ). take (o + 40 * n) l ++ x) (trailer-is ∙ ap (λ (k : ℕ). drop k l) end)
      ∙ take-append-drop (o + 40 * n) l

pub one_form : OneForm
one_form l c b e =
    let w = is_whole l c e in
    sym (whole l b (sound l w.trailer)) ∙ ap (λ (x : Contents). bytes_of x.header x.note x.records) w.contents
