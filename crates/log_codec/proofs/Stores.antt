-- Bytes that are stored one after the other.
use mathlib.Core.Path.{◌≡◌, refl, ap, sym, ◌∙◌}
use mathlib.Core.List.{List, [], ◌∷◌, ◌++◌, append_assoc}
use Prim.Native.Nat.{ℕ, suc, ◌+◌, ◌≤◌, ◌*◌, ◌<◌, ◌/◌, ◌%◌}
use native.Mathlib.Omega.{arith}
use lib.ListN.{set, length, length-append, length-drop, take, drop}
use lib.Seq.{drop-drop, length-take-le, sets, sets-eq}
use borrow.Rule.Slice.PartMut.{put_mid}
use Rattle.log_codec.specs.Numbers.{bytes_of}
use Rattle.log_codec.specs.Records.{encoded}
use Rattle.log_codec.specs.Headers.{encoded_header}
use Rattle.log_codec.specs.declared.Header.{Header}
use Rattle.log_codec.specs.declared.Record.{Record}
use Rattle.log_codec.proofs.BytesOf.{low-bytes}

-- a byte is its own lowest byte
pub byte : (l : List ℕ) (at x : ℕ) → x < 256 → set l at x ≡ sets l at (bytes_of 1 x)
byte l at x h = let e : x % 256 ≡ x = omega arith in rw e

-- a part of a list that is written over
pub part-stored : (l own : List ℕ) (at k : ℕ) {part : List ℕ} → at + k ≤ length l → length part ≡ length (take k (drop at l)) → part ≡ own →
    put_mid at k l part ≡ sets l at own
part-stored l own at k {part} h n e =
    let long : length own ≡ k = ap length (sym e) ∙ n ∙ length-take-le k (drop at l) (simp length-drop (omega arith)) in
    rw (e, sets-eq own l at (omega arith), long, drop-drop k at l) (sym (append_assoc (take at l) own (drop (at + k) l)))

-- one run after another is one run
pub sets-sets : (a b l : List ℕ) (at next : ℕ) → next ≡ at + length a → sets (sets l at a) next b ≡ sets l at (a ++ b)
sets-sets [] b l at next e = let h : next ≡ at = omega arith in rw h
sets-sets (x ∷ a) b l at next e = sets-sets a b (set l at x) (suc at) next (omega arith)

-- the lowest four of eight bytes, and the others
pub halves : (x : ℕ) → bytes_of 4 (x % 4294967296) ++ bytes_of 4 (x / 4294967296) ≡ bytes_of 8 x
halves x =
    simp (b0, b1, b2, b3, b4)
  where
    b0 : x % 4294967296 % 256 ≡ x % 256
    b0 = omega arith

    b1 : x % 4294967296 / 256 % 256 ≡ x / 256 % 256
    b1 = omega arith

    b2 : x % 4294967296 / 256 / 256 % 256 ≡ x / 256 / 256 % 256
    b2 = omega arith

    b3 : x % 4294967296 / 256 / 256 / 256 % 256 ≡ x / 256 / 256 / 256 % 256
    b3 = omega arith

    b4 : x / 4294967296 ≡ x / 256 / 256 / 256 / 256
    b4 = omega arith

-- a run that was stored, and another after it
pub after : (l : List ℕ) (at : ℕ) (a b : List ℕ) (next : ℕ) {m n : List ℕ} → next ≡ at + length a → m ≡ sets l at a → n ≡ sets m next b → n ≡ sets l at (a ++ b)
after l at a b next h e f = f ∙ ap (λ (m : List ℕ). sets m next b) e ∙ sets-sets a b l at next h

-- five runs, each where the last ended
five : (l : List ℕ) (at : ℕ) (a b c d e : List ℕ) {l1 l2 l3 l4 l5 : List ℕ} → l1 ≡ sets l at a → l2 ≡ sets l1 (at + length a) b →
    l3 ≡ sets l2 (at + (length a + length b)) c → l4 ≡ sets l3 (at + (length a + length b + length c)) d →
    l5 ≡ sets l4 (at + (length a + length b + length c + length d)) e → l5 ≡ sets l at ((((a ++ b) ++ c) ++ d) ++ e)
five l at a b c d e e1 e2 e3 e4 e5 =
    let f2 = after l at a b (at + length a) refl e1 e2 in
    let f3 = after l at (a ++ b) c (at + (length a + length b)) (simp length-append) f2 e3 in
    let f4 = after l at ((a ++ b) ++ c) d (at + (length a + length b + length c)) (simp length-append) f3 e4 in
    after l at (((a ++ b) ++ c) ++ d) e (at + (length a + length b + length c + length d)) (simp length-append) f4 e5

module _ (l : List ℕ) (at : ℕ) (r : Record) where
  pub head : {l1 l2 l3 l4 l5 : List ℕ} → l1 ≡ sets l at (bytes_of 1 r.kind) → l2 ≡ sets l1 (at + 1) (bytes_of 1 r.ecn) →
      l3 ≡ sets l2 (at + 2) (bytes_of 2 r.unused) → l4 ≡ sets l3 (at + 4) (bytes_of 4 r.handle) →
      l5 ≡ sets l4 (at + 8) (bytes_of 8 r.clock) → l5 ≡ sets l at (take 16 (encoded r))
  unfolding encoded
  head = five l at (bytes_of 1 r.kind) (bytes_of 1 r.ecn) (bytes_of 2 r.unused) (bytes_of 4 r.handle) (bytes_of 8 r.clock)

  pub tail : {l1 l2 l3 l4 l5 : List ℕ} → l1 ≡ sets l at (bytes_of 4 r.size) → l2 ≡ sets l1 (at + 4) (bytes_of 4 r.u) →
      l3 ≡ sets l2 (at + 8) (bytes_of 4 r.verdict) → l4 ≡ sets l3 (at + 12) (bytes_of 4 r.bytes) →
      l5 ≡ sets l4 (at + 16) (bytes_of 8 r.prob) → l5 ≡ sets l at (drop 16 (encoded r))
  unfolding encoded
  tail = five l at (bytes_of 4 r.size) (bytes_of 4 r.u) (bytes_of 4 r.verdict) (bytes_of 4 r.bytes) (bytes_of 8 r.prob)

  pub whole : {l1 l2 : List ℕ} → l1 ≡ sets l at (take 16 (encoded r)) → l2 ≡ sets l1 (at + 16) (drop 16 (encoded r)) → l2 ≡ sets l at (encoded r)
  unfolding encoded
  whole = after l at (take 16 (encoded r)) (drop 16 (encoded r)) (at + 16) refl

-- a byte and the lowest seven bytes of another number, as one number of eight
byte-seven : (p u : ℕ) → p < 256 → bytes_of 8 (p + 256 * (u % 72057594037927936)) ≡ bytes_of 1 p ++ bytes_of 7 u
byte-seven p u h =
    let low : (p + 256 * (u % 72057594037927936)) % 256 ≡ p % 256 = omega arith in
    let high : (p + 256 * (u % 72057594037927936)) / 256 ≡ u % 72057594037927936 = omega arith in
    let whole : u % 72057594037927936 + 72057594037927936 * (u / 72057594037927936) ≡ u = omega arith in
    rw (low, high) (ap (◌∷◌ (p % 256)) (sym (low-bytes 7 (u % 72057594037927936) (u / 72057594037927936)) ∙ ap (bytes_of 7) whole))

pub settings : (l : List ℕ) (at : ℕ) (h : Header) {l1 l2 l3 l4 l5 : List ℕ} → h.profile < 256 → l1 ≡ sets l at (bytes_of 8 h.target) →
    l2 ≡ sets l1 (at + 8) (bytes_of 4 h.buffer) → l3 ≡ sets l2 (at + 12) (bytes_of 4 h.slots) →
    l4 ≡ sets l3 (at + 16) (bytes_of 8 h.clock) →
    l5 ≡ sets l4 (at + 24) (bytes_of 8 (h.profile + 256 * (h.unused % 72057594037927936))) → l5 ≡ sets l at (encoded_header h)
unfolding encoded_header
settings l at h {l1} {l2} {l3} {l4} p e1 e2 e3 e4 e5 =
    five l at (bytes_of 8 h.target) (bytes_of 4 h.buffer) (bytes_of 4 h.slots) (bytes_of 8 h.clock) (bytes_of 1 h.profile ++ bytes_of 7 h.unused)
    e1 e2 e3 e4 (e5 ∙ ap (sets l4 (at + 24)) (byte-seven h.profile h.unused p))
