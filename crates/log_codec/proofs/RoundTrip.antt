-- A record and its 40 bytes determine each other, and so do the settings and their 32: one law over a list of widths.
use mathlib.Core.Path.{◌≡◌, refl, ap, ap₂, ◌∙◌, sym}
use mathlib.Core.List.{List, [], ◌∷◌, ◌++◌, append_assoc}
use Prim.Native.Nat.{ℕ, zero, suc, ◌+◌, ◌≤◌}
use native.Mathlib.Omega.{arith}
use lib.ListN.{length, take, drop, length-drop}
use lib.Seq.{sets, sets-eq, drop_at, take_at, drop-drop, take-add, length-take-le}
use Rattle.log_codec.specs.Numbers.{bytes_of, number_of}
use Rattle.log_codec.specs.Fields.{AreBytes, Fit, joined, parted, total}
use Rattle.log_codec.specs.Headers.{HeaderInRange, header_widths, header_fields, header_of, encoded_header, decoded_header}
use Rattle.log_codec.specs.Records.{InRange, widths, fields_of, record_of, encoded, decoded}
use Rattle.log_codec.specs.RoundTrip.{ChangesOnly, HeaderReadsBack, HeaderWritesBack, ReadsBack, WritesBack}
use Rattle.log_codec.specs.declared.Header.{Header}
use Rattle.log_codec.specs.declared.Record.{Record}
use Rattle.log_codec.proofs.BytesOf.{length-bytes_of, number-bytes, bytes-number}

-- ── numbers that were joined part again ──

parted-joined : (ws ns l : List ℕ) (at : ℕ) (rest : List ℕ) → length ns ≡ length ws → Fit ws ns → drop at l ≡ joined ws ns ++ rest → parted ws l at ≡ ns
parted-joined [] [] l at rest n f e = refl
parted-joined [] (x ∷ ns) l at rest n f e = absurd (omega arith)
parted-joined (w ∷ ws) [] l at rest n f e = absurd (omega arith)
parted-joined (w ∷ ws) (x ∷ ns) l at rest n f e =
    let b = bytes_of w x in
    let more = joined ws ns ++ rest in
    let here : drop at l ≡ b ++ more = e ∙ append_assoc b (joined ws ns) rest in
    let there : drop (at + w) l ≡ more = sym (drop-drop w at l) ∙ ap (drop w) here ∙ drop_at b more w (length-bytes_of w x) in
    ap₂ ◌∷◌
    (ap (λ (t : List ℕ). number_of (take w t)) here ∙ ap number_of (take_at b more w (length-bytes_of w x)) ∙ number-bytes w x f.0)
    (parted-joined ws ns l (at + w) rest (omega arith) f.1 there)

pub decoded-encoded : (r : Record) (l : List ℕ) (at : ℕ) (rest : List ℕ) → InRange r → drop at l ≡ encoded r ++ rest → decoded l at ≡ r
unfolding encoded decoded
decoded-encoded r l at rest f e = ap record_of (parted-joined widths (fields_of r) l at rest refl f e)

pub length-encoded : (r : Record) → length (encoded r) ≡ 40
unfolding encoded
length-encoded r = refl

pub decoded-header : (h : Header) (l : List ℕ) (at : ℕ) (rest : List ℕ) → HeaderInRange h → drop at l ≡ encoded_header h ++ rest →
    decoded_header l at ≡ h
unfolding encoded_header decoded_header
decoded-header h l at rest f e = ap header_of (parted-joined header_widths (header_fields h) l at rest refl f e)

pub length-header : (h : Header) → length (encoded_header h) ≡ 32
unfolding encoded_header
length-header h = refl

-- what stands from a run of stores on
pub drop-sets : (l : List ℕ) (at : ℕ) (a : List ℕ) → at + length a ≤ length l → drop at (sets l at a) ≡ a ++ drop (at + length a) l
drop-sets l at a h =
    ap (drop at) (sets-eq a l at h ∙ append_assoc (take at l) a (drop (at + length a) l))
    ∙ drop_at (take at l) (a ++ drop (at + length a) l) at (length-take-le at l (omega arith))

pub reads-back : ReadsBack
reads-back r l at f h =
    decoded-encoded r (sets l at (encoded r)) at (drop (at + length (encoded r)) l) f
    (drop-sets l at (encoded r) (omega (arith, length-encoded r)))

pub header-reads-back : HeaderReadsBack
header-reads-back h l at f p =
    decoded-header h (sets l at (encoded_header h)) at (drop (at + length (encoded_header h)) l) f
    (drop-sets l at (encoded_header h) (omega (arith, length-header h)))

pub changes-only : ChangesOnly
changes-only r l at h = sets-eq (encoded r) l at (omega (arith, length-encoded r)) ∙ rw (length-encoded r)

-- ── numbers that were parted join again ──

are-drop : (n : ℕ) (l : List ℕ) → AreBytes l → AreBytes (drop n l)
are-drop zero l h = h
are-drop (suc n) [] h = h
are-drop (suc n) (b ∷ l) h = are-drop n l h.1

are-take : (n : ℕ) (l : List ℕ) → AreBytes l → AreBytes (take n l)
are-take zero l h = tt
are-take (suc n) [] h = tt
are-take (suc n) (b ∷ l) h = (h.0, are-take n l h.1)

pub joined-parted : (ws l : List ℕ) (at : ℕ) → AreBytes l → at + total ws ≤ length l → joined ws (parted ws l at) ≡ take (total ws) (drop at l)
joined-parted [] l at a h = refl
joined-parted (w ∷ ws) l at a h =
    let t = take w (drop at l) in
    let n : length t ≡ w = length-take-le w (drop at l) (simp length-drop (omega arith)) in
    let same : bytes_of w (number_of t) ≡ t = rw n at (bytes-number t (are-take w (drop at l) (are-drop at l a))) in
    ap₂ ◌++◌ same (joined-parted ws l (at + w) a (omega arith))
    ∙ ap (λ (m : List ℕ). t ++ take (total ws) m) (sym (drop-drop w at l))
    ∙ sym (take-add w (total ws) (drop at l))

pub header-writes-back : HeaderWritesBack
unfolding encoded_header decoded_header
header-writes-back l at a h = joined-parted header_widths l at a h

pub writes-back : WritesBack
unfolding encoded decoded
writes-back l at a h = joined-parted widths l at a h
