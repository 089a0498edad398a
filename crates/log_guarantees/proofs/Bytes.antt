-- Settings, note, records and trailer as bytes: their lengths, one more record, and how they read.
use mathlib.Core.Path.{◌≡◌, refl, ap, ap₂, ◌∙◌, sym}
use mathlib.Core.Bool.{false, not, ◌&&◌}
use mathlib.Core.List.{List, [], ◌∷◌, ◌++◌, append_assoc, append-nil}
use Prim.Native.Nat.{ℕ, ◌+◌, ◌*◌, ◌-◌, ◌≤◌}
use native.Mathlib.Omega.{arith}
use lib.Dec.{eqb, leb}
use lib.ListN.{length, take, drop, length-append}
use lib.Seq.{drop_at, drop-drop, take_at}
use borrow.Author.Tests.{eq-eqb, eqb-true, le-leb, leb-true, not-false}
use Rattle.laws.proofs.Tests.{and_left, and_right, or-neither}
use Rattle.pie.specs.Constants.{latest}
use Rattle.ring.specs.Fresh.{settings_of}
use Rattle.ring.specs.Refusals.{settings_refused}
use Rattle.laws.specs.Tests.{all}
use Rattle.ring.specs.State.{settings_conditions}
use Rattle.laws.proofs.TestLists.{all-at}
use Rattle.log_codec.specs.Headers.{HeaderInRange, encoded_header}
use Rattle.log_codec.specs.Numbers.{number_of}
use Rattle.log_codec.specs.Records.{encoded}
use Rattle.log_codec.specs.declared.Header.{Header}
use Rattle.log_codec.specs.declared.Record.{Record}
use Rattle.log_codec.proofs.BytesOf.{number-bytes}
use Rattle.log_codec.proofs.RoundTrip.{decoded-encoded, decoded-header, length-encoded, length-header}
use Rattle.call_log.specs.Faults.{header_refused}
use Rattle.call_log.specs.Layout.{count_in, header_in, letters, letters_in, note_in, offset_in, records_from, records_in, size_in, trailer_of}
use Rattle.call_log.specs.Reader.{trailer_refused}
use Rattle.call_log.specs.Whole.{any_faulty}
use Rattle.call_log.proofs.Contents.{IsWhole}
use Rattle.log_guarantees.specs.AlwaysWhole.{bytes_of, encoded_all}
use Rattle.log_guarantees.specs.Run.{AllInRange}

-- ── lengths ──

pub length-trailer : (o n : ℕ) → length (trailer_of o n) ≡ 16
unfolding trailer_of
length-trailer o n = refl

pub length-all : (rs : List Record) → length (encoded_all rs) ≡ 40 * length rs
length-all [] = refl
length-all (r ∷ rs) = rw length-append (omega (arith, length-encoded r, length-all rs))

-- the bytes before the trailer
abbrev pub front : Header → List ℕ → List Record → List ℕ
front h note rs = encoded_header h ++ note ++ encoded_all rs

pub length_front : (h : Header) (note : List ℕ) (rs : List Record) → length (front h note rs) ≡ 32 + length note + 40 * length rs
length_front h note rs = simp length-append (omega (arith, length-header h, length-all rs))

pub length-bytes : (h : Header) (note : List ℕ) (rs : List Record) → length (bytes_of h note rs) ≡ 32 + length note + 40 * length rs + 16
length-bytes h note rs =
    length-append (front h note rs) (trailer_of (32 + length note) (length rs)) ∙ omega (arith, length_front h note rs, length-trailer (32 + length note) (length rs))

-- ── one more record ──

pub snoc-all : (rs : List Record) (r : Record) → encoded_all (rs ++ r ∷ []) ≡ encoded_all rs ++ encoded r
snoc-all [] r = append-nil (encoded r)
snoc-all (q ∷ rs) r = ap (λ (t : List ℕ). encoded q ++ t) (snoc-all rs r) ∙ sym (append_assoc (encoded q) (encoded_all rs) (encoded r))

pub snoc-front : (h : Header) (note : List ℕ) (rs : List Record) (r : Record) → front h note (rs ++ r ∷ []) ≡ front h note rs ++ encoded r
snoc-front h note rs r =
    ap (λ (t : List ℕ). encoded_header h ++ note ++ t) (snoc-all rs r) ∙ sym (append_assoc (encoded_header h ++ note) (encoded_all rs) (encoded r))

-- ── how they read ──

-- settings that are not refused fit their widths
pub header-in-range : (h : Header) → header_refused h ≡ false → HeaderInRange h
unfolding header_refused
header-in-range h e =
    let s = settings_of h.target h.buffer h.slots h.profile in
    let p = or-neither (settings_refused s h.clock) (not (eqb h.unused 0)) e in
    let q = not-false (all (settings_conditions s) && leb h.clock latest) p.0 in
    let at = all-at (settings_conditions s) (and_left (all (settings_conditions s)) (leb h.clock latest) q) in
    let target = leb-true h.target 100000 (at 1) in
    let buffer = leb-true h.buffer 16777216 (at 3) in
    let slots = leb-true h.slots 65536 (at 5) in
    let profile = leb-true h.profile 1 (at 6) in
    let clock = leb-true h.clock latest (and_right (all (settings_conditions s)) (leb h.clock latest) q) in
    let unused = eqb-true h.unused 0 (not-false (eqb h.unused 0) p.1) in
    (omega arith, (omega arith, (omega arith, (omega arith, (omega arith, (omega arith, tt))))))

records-encoded : (rs : List Record) (l : List ℕ) (at : ℕ) (rest : List ℕ) → AllInRange rs → drop at l ≡ encoded_all rs ++ rest →
    records_from (length rs) l at ≡ rs
records-encoded [] l at rest f e = refl
records-encoded (r ∷ rs) l at rest f e =
    let more = encoded_all rs ++ rest in
    let here : drop at l ≡ encoded r ++ more = e ∙ append_assoc (encoded r) (encoded_all rs) rest in
    let there : drop (at + 40) l ≡ more = sym (drop-drop 40 at l) ∙ ap (drop 40) here ∙ drop_at (encoded r) more 40 (length-encoded r) in
    ap₂ ◌∷◌ (decoded-encoded r l at more f.0 here) (records-encoded rs l (at + 40) rest f.1 there)

module _ (h : Header) (note : List ℕ) (rs : List Record) (ok : header_refused h ≡ false) (short : length note ≤ 4096) (few : length rs ≤ 100000)
    (fit : AllInRange rs) (faultless : any_faulty rs ≡ false) where
  abbrev l : List ℕ
  l = bytes_of h note rs

  abbrev o : ℕ
  o = 32 + length note

  abbrev t : List ℕ
  t = trailer_of o (length rs)

  size : length l ≡ o + 40 * length rs + 16
  size = length-bytes h note rs

  -- the last 16 bytes, and what stands k bytes into them
  at-end : (k n : ℕ) → k + n ≡ 16 → drop (length l - n) l ≡ drop k t
  at-end k n e =
      let p : length l - n ≡ length (front h note rs) + k = omega (arith, size, length_front h note rs) in
      rw p (sym (drop-drop k (length (front h note rs)) l) ∙ ap (drop k) (drop_at (front h note rs) t (length (front h note rs)) refl))

  number_at : (k n : ℕ) → k + n ≡ 16 → number_of (take 4 (drop (length l - n) l)) ≡ number_of (take 4 (drop k t))
  number_at k n e = ap (λ (b : List ℕ). number_of (take 4 b)) (at-end k n e)

  offset-is : offset_in l ≡ o
  unfolding trailer_of
  offset-is = number_at 0 16 refl ∙ number-bytes 4 o (omega arith)

  count-is : count_in l ≡ length rs
  unfolding trailer_of
  count-is = number_at 4 12 refl ∙ number-bytes 4 (length rs) (omega arith)

  size_is : size_in l ≡ 40
  unfolding trailer_of
  size_is = number_at 8 8 refl

  letters-are : letters_in l ≡ number_of letters
  unfolding trailer_of
  letters-are = number_at 12 4 refl

  trailer-ok : trailer_refused l ≡ false
  unfolding trailer_refused
  trailer-ok =
      simp (offset-is, count-is, size_is, letters-are)
      (simp (
        le-leb 48 (length l) (omega (arith, size)),
        le-leb 32 o (omega arith),
        le-leb o 4128 (omega arith),
        le-leb (length rs) 100000 few,
        eq-eqb (length l) (o + 40 * length rs + 16) size,
      ))

  header_is : header_in l ≡ h
  header_is =
      decoded-header h l 0 (note ++ (encoded_all rs ++ t)) (header-in-range h ok)
      (append_assoc (encoded_header h ++ note) (encoded_all rs) t ∙ append_assoc (encoded_header h) note (encoded_all rs ++ t))

  note-is : note_in l ≡ note
  note-is =
      let e : o - 32 ≡ length note = omega arith in
      ap (λ (k : ℕ). take (k - 32) (drop 32 l)) offset-is
      ∙ ap (λ (b : List ℕ). take (o - 32) (drop 32 b)) (append_assoc (encoded_header h ++ note) (encoded_all rs) t ∙ append_assoc (encoded_header h) note (encoded_all rs ++ t))
      ∙ ap (take (o - 32)) (drop_at (encoded_header h) (note ++ (encoded_all rs ++ t)) 32 (length-header h))
      ∙ take_at note (encoded_all rs ++ t) (o - 32) (sym e)

  records-are : records_in l ≡ rs
  records-are =
      ap₂ (λ (n k : ℕ). records_from n l k) count-is offset-is
      ∙ records-encoded rs l o t fit
      (ap (drop o) (append_assoc (encoded_header h ++ note) (encoded_all rs) t)
      ∙ drop_at (encoded_header h ++ note) (encoded_all rs ++ t) o (length-append (encoded_header h) note ∙ ap (λ (k : ℕ). k + length note) (length-header h)))

  pub is_whole : IsWhole l (record { header = h; note = note; records = rs })
  is_whole = record {
    trailer = trailer-ok;
    settings = ap header_refused header_is ∙ ok;
    faultless = ap any_faulty records-are ∙ faultless;
    contents = rw (header_is, note-is, records-are);
  }
