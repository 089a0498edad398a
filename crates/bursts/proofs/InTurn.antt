-- A burst is the list of its calls, in turn.
use mathlib.Core.Path.{◌≡◌, refl, ap, sym, ◌∙◌}
use mathlib.Core.Bool.{Bool, true, false}
use mathlib.Core.List.{List, foldl}
use Prim.Native.Nat.{ℕ, zero, suc, ◌≤◌, ◌<◌}
use native.Mathlib.Omega.{arith}
use lib.Dec.{ltb}
use lib.ListN.{get_or, length, length-set, set}
use lib.Seq.{get_or-set_other, get_or-set_same}
use borrow.Author.Tests.{ltb-false, ltb-true}
use Rattle.calls.specs.Ring.{listed}
use Rattle.bursts.specs.Kind.{BurstKind}
use Rattle.bursts.specs.Burst.{burst, call, word_to}
use Rattle.bursts.specs.InTurn.{AnsweredInTurn, left_by}

-- a fold over one more is one more step
fold-last : {A B : Type 0} (step : A → B → A) (a : A) (n : ℕ) (f : ℕ → B) → foldl step a (listed (suc n) f) ≡ step (foldl step a (listed n f)) (f n)
fold-last step a zero f = refl
fold-last step a (suc n) f = fold-last step (step a (f 0)) n (λ i. f (suc i))

module _ (k : BurstKind) (q : k.kind.State) (calls answers : List ℕ) where
  left : (n : ℕ) → (burst k q calls answers n).lent ≡ left_by k q calls n
  unfolding burst
  left zero = refl
  left (suc n) = ap (λ (l : k.kind.State). k.kind.next l (call k calls n)) (left n) ∙ sym (fold-last k.kind.next q n (call k calls))

  long : (n : ℕ) → length (burst k q calls answers n).answers ≡ length answers
  unfolding burst
  long zero = refl
  long (suc n) = length-set (burst k q calls answers n).answers n _ ∙ long n

  abbrev answer : (i : ℕ) → ℕ
  answer i = word_to k (left_by k q calls i) (call k calls i)

  answered : (n i : ℕ) → i < n → n ≤ length answers → get_or (burst k q calls answers n).answers i 0 ≡ answer i
  unfolding burst
  answered zero i h l = absurd (omega arith)
  answered (suc n) i h l = go (λ below. answered n i below (omega arith)) (ltb i n) refl
    where
      before : List ℕ
      before = (burst k q calls answers n).answers

      last : ℕ
      last = word_to k (burst k q calls answers n).lent (call k calls n)

      go : (i < n → get_or before i 0 ≡ answer i) → (b : Bool) → ltb i n ≡ b → get_or (set before n last) i 0 ≡ answer i
      go earlier true e =
          let below : i < n = ltb-true i n e in
          get_or-set_other before n i last 0 (λ same. omega arith) ∙ earlier below
      go earlier false e =
          let not-below : n ≤ i = ltb-false i n e in
          let same : i ≡ n = omega arith in
          rw same (get_or-set_same before n last 0 (omega (arith, long n))
          ∙ ap (λ (s : k.kind.State). word_to k s (call k calls n)) (left n))

pub answered-in-turn : AnsweredInTurn
answered-in-turn k q calls answers n = record { left = left k q calls answers n; answered = answered k q calls answers n }
