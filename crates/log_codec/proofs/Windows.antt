-- Bytes that are read one after the other.
use mathlib.Core.Path.{◌≡◌, refl, ap, ◌∙◌}
use mathlib.Core.List.{List, [], ◌∷◌}
use Prim.Native.Nat.{ℕ, zero, suc, ◌+◌, ◌/◌, ◌≤◌}
use native.Mathlib.Nat.{add-zero, add-suc, add_assoc}
use native.Mathlib.Omega.{arith}
use lib.ListN.{get_or, take, drop, length}
use lib.Seq.{drop-cons}
use Rattle.log_codec.specs.Numbers.{number_of}
use Rattle.log_codec.specs.Records.{decoded}
use Rattle.log_codec.specs.Headers.{decoded_header}

-- the elements from `at + k` on, n of them
abbrev elements : List ℕ → (at k n : ℕ) → List ℕ
elements l at k zero = []
elements l at k (suc n) = get_or l (at + k) 0 ∷ elements l at (suc k) n

window : (l : List ℕ) (at k n : ℕ) → at + k + n ≤ length l → take n (drop (at + k) l) ≡ elements l at k n
window l at k zero h = refl
window l at k (suc n) h =
    rw (drop-cons l (at + k) 0 (omega arith), ← (add-suc at k)) (ap (λ (t : List ℕ). get_or l (at + k) 0 ∷ t) (window l at (suc k) n (omega arith)))

module _ (l : List ℕ) (at : ℕ) where
  pub byte : at + 1 ≤ length l → number_of (take 1 (drop at l)) ≡ get_or l at 0
  byte h = let e = simp add-zero at (window l at 0 1 (omega arith)) in rw e (omega arith)

  -- of eight bytes those after the first
  pub seven : at + 8 ≤ length l → {n : ℕ} → number_of (take 1 (drop at l)) ≤ 255 → n ≡ number_of (take 8 (drop at l)) → n / 256 ≡ number_of (take 7 (drop (at + 1) l))
  seven h b e =
      let w = simp add-zero at (window l at 0 8 (omega arith)) in
      let v = window l at 1 7 (omega arith) in
      rw v (omega (arith, byte (omega arith), e ∙ ap number_of w))

  fields : decoded l at ≡ record {
    kind = number_of (take 1 (drop at l));
    ecn = number_of (take 1 (drop (at + 1) l));
    unused = number_of (take 2 (drop (at + 2) l));
    handle = number_of (take 4 (drop (at + 4) l));
    clock = number_of (take 8 (drop (at + 8) l));
    size = number_of (take 4 (drop (at + 16) l));
    u = number_of (take 4 (drop (at + 20) l));
    verdict = number_of (take 4 (drop (at + 24) l));
    bytes = number_of (take 4 (drop (at + 28) l));
    prob = number_of (take 8 (drop (at + 32) l));
  }
  unfolding decoded
  fields = simp add_assoc

module _ (l : List ℕ) (at : ℕ) (fits : at + 40 ≤ length l) {kind ecn unused handle clock size u verdict bytes prob : ℕ} where
  pub whole :
      kind ≡ get_or l at 0 → ecn ≡ get_or l (at + 1) 0 →
      unused ≡ number_of (take 2 (drop (at + 2) l)) →
      handle ≡ number_of (take 4 (drop (at + 4) l)) →
      clock ≡ number_of (take 8 (drop (at + 8) l)) →
      size ≡ number_of (take 4 (drop (at + 16) l)) →
      u ≡ number_of (take 4 (drop (at + 20) l)) →
      verdict ≡ number_of (take 4 (drop (at + 24) l)) →
      bytes ≡ number_of (take 4 (drop (at + 28) l)) →
      prob ≡ number_of (take 8 (drop (at + 32) l)) →
      record { kind = kind; ecn = ecn; unused = unused; handle = handle; clock = clock; size = size; u = u; verdict = verdict; bytes = bytes; prob = prob } ≡ decoded l at
  whole e0 e1 e2 e3 e4 e5 e6 e7 e8 e9 = cc (fields l at, byte l at (omega arith), byte l (at + 1) (omega arith))

module _ (l : List ℕ) (at : ℕ) where
  header-fields : decoded_header l at ≡ record {
    target = number_of (take 8 (drop at l));
    buffer = number_of (take 4 (drop (at + 8) l));
    slots = number_of (take 4 (drop (at + 12) l));
    clock = number_of (take 8 (drop (at + 16) l));
    profile = number_of (take 1 (drop (at + 24) l));
    unused = number_of (take 7 (drop (at + 25) l));
  }
  unfolding decoded_header
  header-fields = simp add_assoc

  pub settings : at + 32 ≤ length l → {target buffer slots clock profile unused : ℕ} →
      target ≡ number_of (take 8 (drop at l)) →
      buffer ≡ number_of (take 4 (drop (at + 8) l)) →
      slots ≡ number_of (take 4 (drop (at + 12) l)) →
      clock ≡ number_of (take 8 (drop (at + 16) l)) →
      profile ≡ number_of (take 1 (drop (at + 24) l)) → profile ≤ 255 →
      unused ≡ number_of (take 8 (drop (at + 24) l)) →
      record { target = target; buffer = buffer; slots = slots; clock = clock; profile = profile; unused = unused / 256 } ≡ decoded_header l at
  settings h e0 e1 e2 e3 e4 b e5 =
      let s = simp add_assoc at (seven l (at + 24) (omega arith) (omega (arith, e4, b)) e5) in cc (header-fields, s)
