-- What the writer stores, one run after another.
use mathlib.Core.Path.{◌≡◌, refl, ap, ◌∙◌, sym}
use mathlib.Core.List.{List, [], ◌∷◌, ◌++◌}
use Prim.Native.Nat.{ℕ, ◌+◌, ◌*◌, ◌<◌}
use native.Mathlib.Numerals.{add-one}
use native.Mathlib.Omega.{arith}
use lib.ListN.{get_or, length, length-append, set, take}
use lib.Seq.{length-sets, length-take-le, sets, take-suc}
use Rattle.log_codec.specs.Headers.{encoded_header}
use Rattle.log_codec.specs.Numbers.{bytes_of}
use Rattle.log_codec.specs.Records.{encoded}
use Rattle.log_codec.specs.declared.Header.{Header}
use Rattle.log_codec.specs.declared.Record.{Record}
use Rattle.log_codec.proofs.Stores.{after, sets-sets}
use Rattle.log_codec.proofs.RoundTrip.{length-encoded, length-header}
use Rattle.call_log.specs.Layout.{trailer_of}
use Rattle.call_log.specs.Writer.{added, begun}
use Rattle.call_log.specs.declared.Writer.{Writer}

pub trailer : (l : List ℕ) (at o n : ℕ) {l1 l2 l3 l4 : List ℕ} → l1 ≡ sets l at (bytes_of 4 o) → l2 ≡ sets l1 (at + 4) (bytes_of 4 n) →
    l3 ≡ sets l2 (at + 8) (bytes_of 4 40) → l4 ≡ sets l3 (at + 12) (bytes_of 4 1196379217) → l4 ≡ sets l at (trailer_of o n)
unfolding trailer_of
trailer l at o n e1 e2 e3 e4 =
    let a = bytes_of 4 o in
    let b = bytes_of 4 n in
    let c = bytes_of 4 40 in
    after l at ((a ++ b) ++ c) (bytes_of 4 1196379217) (at + 12) refl (after l at (a ++ b) c (at + 8) refl (after l at a b (at + 4) refl e1 e2) e3) e4

-- one more byte of a note
pub one_more : (l note : List ℕ) (at i : ℕ) → i < length note →
    set (sets l at (take i note)) (at + i) (get_or note i 0) ≡ sets l at (take (i + 1) note)
one_more l note at i h =
    sets-sets (take i note) (get_or note i 0 ∷ []) l at (at + i) (omega (arith, length-take-le i note (omega arith)))
    ∙ ap (λ (t : List ℕ). sets l at t) (sym (take-suc note i 0 h))
    ∙ ap (λ (n : ℕ). sets l at (take n note)) (sym (add-one i))

-- a run of stores leaves the length
pub as_long : (l : List ℕ) (at : ℕ) (a : List ℕ) {m : List ℕ} → m ≡ sets l at a → length m ≡ length l
as_long l at a e = ap length e ∙ length-sets l at a

pub beginning : (l note : List ℕ) (h : Header) {l1 l2 l3 : List ℕ} → l1 ≡ sets l 0 (encoded_header h) → l2 ≡ sets l1 32 note →
    l3 ≡ sets l2 (32 + length note) (trailer_of (32 + length note) 0) → l3 ≡ begun h note l
unfolding begun
beginning l note h e1 e2 e3 =
    let e = encoded_header h in
    let n : length e ≡ 32 = length-header h in
    after l 0 (e ++ note) (trailer_of (32 + length note) 0) (32 + length note) (rw length-append (omega arith)) (after l 0 e note 32 (omega arith) e1 e2) e3

pub record-and-trailer : (l : List ℕ) (w : Writer) (r : Record) {l1 l2 : List ℕ} → l1 ≡ sets l (w.offset + 40 * w.count) (encoded r) →
    l2 ≡ sets l1 (w.offset + 40 * w.count + 40) (trailer_of w.offset (w.count + 1)) → l2 ≡ added w r l
unfolding added
record-and-trailer l w r e f =
    let p = w.offset + 40 * w.count in
    after l p (encoded r) (trailer_of w.offset (w.count + 1)) (p + 40) (omega (arith, length-encoded r)) e f
