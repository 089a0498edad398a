-- The ring's packets as a list: what enters at the tail is added at its end, what leaves at the head is taken from its front.
use mathlib.Core.Path.{◌≡◌, refl, ap, ◌∙◌}
use mathlib.Core.Bool.{Bool, true, false}
use mathlib.Core.Logic.{◌≢◌, ◌⊎◌, inl, inr}
use mathlib.Core.List.{List, [], ◌∷◌, ◌++◌}
use Prim.Native.Nat.{ℕ, zero, suc, ◌+◌, ◌-◌, ◌%◌, ◌≤◌, ◌<◌}
use native.Mathlib.Nat.{mod-lt, mod-eq_of_lt, mod-eq-sub-mod, mod-add-mod}
use native.Mathlib.Numerals.{add-one}
use native.Mathlib.Omega.{arith}
use borrow.Author.Tests.{ltb-true, ltb-false}
use lib.Dec.{ltb}
use lib.ListN.{length, get_or, set}
use lib.Seq.{get_or-set_same, get_or-set_other}
use Rattle.calls.specs.Packets.{Packet}
use Rattle.calls.specs.Ring.{listed, ring, slot}

-- ── places ──

-- a place less than one round from another is at their sum, or one round less
wrapped : (first i slots : ℕ) → first < slots → i < slots → ((first + i) % slots ≡ first + i) ⊎ ((first + i) % slots + slots ≡ first + i)
wrapped first i slots hf hi = go (ltb (first + i) slots) refl
  where
    go : (b : Bool) → ltb (first + i) slots ≡ b → ((first + i) % slots ≡ first + i) ⊎ ((first + i) % slots + slots ≡ first + i)
    go true e = inl (mod-eq_of_lt (ltb-true (first + i) slots e))
    go false e =
        let round : slots ≤ first + i = ltb-false (first + i) slots e in
        let rest : (first + i) % slots ≡ first + i - slots = mod-eq-sub-mod round ∙ mod-eq_of_lt (omega arith) in
        inr (omega arith)

-- the tail's place is none of those before it
distinct : (first i count slots : ℕ) → first < slots → i < count → count < slots → (first + i) % slots ≢ (first + count) % slots
distinct first i count slots hf hi hc e = go (wrapped first i slots hf (omega arith)) (wrapped first count slots hf hc)
  where
    go : ((first + i) % slots ≡ first + i) ⊎ ((first + i) % slots + slots ≡ first + i) →
        ((first + count) % slots ≡ first + count) ⊎ ((first + count) % slots + slots ≡ first + count) → ⊥
    go (inl p) (inl q) = omega arith
    go (inl p) (inr q) = omega arith
    go (inr p) (inl q) = omega arith
    go (inr p) (inr q) = omega arith

-- ── lists made by their places ──

listed-ext : {A : Type 0} (n : ℕ) (f g : ℕ → A) → ((i : ℕ) → i < n → f i ≡ g i) → listed n f ≡ listed n g
listed-ext zero f g h = refl
listed-ext (suc n) f g h =
    cc (h 0 (omega arith), listed-ext n (λ i. f (suc i)) (λ i. g (suc i)) (λ i k. h (suc i) (omega arith)))

listed-last : {A : Type 0} (n : ℕ) (f : ℕ → A) → listed (suc n) f ≡ listed n f ++ f n ∷ []
listed-last zero f = refl
listed-last (suc n) f = cc (listed-last n (λ i. f (suc i)))

listed-first : {A : Type 0} (n : ℕ) (f : ℕ → A) → 1 ≤ n → listed n f ≡ f 0 ∷ listed (n - 1) (λ i. f (suc i))
listed-first zero f h = let z : ⊥ = omega arith in absurd z
listed-first (suc n) f h = let e : suc n - 1 ≡ n = omega arith in rw e

pub length-listed : {A : Type 0} (n : ℕ) (f : ℕ → A) → length (listed n f) ≡ n
length-listed zero f = refl
length-listed (suc n) f = ap suc (length-listed n (λ i. f (suc i)))

-- ── the ring ──

module _ (first slots : ℕ) (handles sizes : List ℕ) (inside : first < slots) where
  pub enters : (count handle size : ℕ) → count < slots → length handles ≡ slots → length sizes ≡ slots →
      ring first slots (set handles ((first + count) % slots) handle) (set sizes ((first + count) % slots) size) (count + 1)
      ≡ ring first slots handles sizes count ++ record { handle = handle; size = size } ∷ []
  enters count handle size room lh lz = rw (add-one count) (listed-last count after ∙ cc (listed-ext count after before others, last))
    where
      tail : ℕ
      tail = (first + count) % slots

      tail-inside : tail < slots
      tail-inside = mod-lt (first + count) (omega arith)

      before : ℕ → Packet
      before i = slot handles sizes ((first + i) % slots)

      after : ℕ → Packet
      after i = slot (set handles tail handle) (set sizes tail size) ((first + i) % slots)

      others : (i : ℕ) → i < count → after i ≡ before i
      others i hi =
          let apart = distinct first i count slots inside hi room in
          cc (
            get_or-set_other handles tail ((first + i) % slots) handle 0 apart,
            get_or-set_other sizes tail ((first + i) % slots) size 0 apart,
          )

      last : after count ≡ record { handle = handle; size = size }
      last =
          cc (
            get_or-set_same handles tail handle 0 (omega (arith, tail-inside)),
            get_or-set_same sizes tail size 0 (omega (arith, tail-inside)),
          )

  pub leaves : (count : ℕ) → 1 ≤ count →
      ring first slots handles sizes count ≡ slot handles sizes first ∷ ring ((first + 1) % slots) slots handles sizes (count - 1)
  leaves count some = listed-first count at some ∙ cc (head, listed-ext (count - 1) (λ i. at (suc i)) next rest)
    where
      at : ℕ → Packet
      at i = slot handles sizes ((first + i) % slots)

      next : ℕ → Packet
      next i = slot handles sizes (((first + 1) % slots + i) % slots)

      head : at 0 ≡ slot handles sizes first
      head = let e : first + 0 ≡ first = omega arith in rw (e, mod-eq_of_lt inside)

      rest : (i : ℕ) → i < count - 1 → at (suc i) ≡ next i
      rest i h = let e : first + suc i ≡ first + 1 + i = omega arith in rw (e, mod-add-mod (first + 1) slots i)
