-- The words of both queues in one list.
use mathlib.Core.Path.{◌≡◌, refl, ap}
use mathlib.Core.Bool.{true, false, false≢true}
use mathlib.Core.List.{List, [], ◌∷◌}
use Prim.Native.Nat.{ℕ, zero, suc, ◌+◌, ◌-◌, ◌/◌, ◌%◌, ◌≤◌, ◌<◌}
use native.Mathlib.Omega.{arith}
use lib.Dec.{eqb, ltb}
use lib.ListN.{get_or, length, set}
use borrow.Author.Tests.{lt-ltb, ltb-false, ltb-true}
use Rattle.bursts.proofs.Steps.{Step}
use Rattle.pair_burst.specs.Burst.{pair_bursts}
use Rattle.pair_burst.specs.Fitting.{Fitting, Ready, lent_both}
use Rattle.pair_burst.proofs.Refused.{either_way}
use Rattle.pair_burst.proofs.Steps.{Asked, first_step, second-step}

clash : {P : Type 0} → ◌≡◌ {A = ℕ} 0 1 → P
clash e = absurd (false≢true (ap (λ (n : ℕ). eqb n 1) e))

-- a list of two rows
for-two : (P : List (List ℕ) → Type 0) → ((x y : List ℕ) → P (x ∷ y ∷ [])) → (both : List (List ℕ)) → length both ≡ 2 → P both
for-two P h [] e = clash (omega arith)
for-two P h (x ∷ []) e = clash (omega arith)
for-two P h (x ∷ y ∷ []) e = h x y
for-two P h (x ∷ y ∷ z ∷ rest) e = clash (omega arith)

-- a row that is written again
pub same-both : (s handles sizes : List ℕ) (q : ℕ) (both : List (List ℕ)) → length both ≡ 2 → q < 2 →
    lent_both s both handles sizes ≡ lent_both s (set both q (get_or both q [])) handles sizes
same-both s handles sizes q =
    for-two (λ b. q < 2 → lent_both s b handles sizes ≡ lent_both s (set b q (get_or b q [])) handles sizes) (λ x y. go q x y)
  where
    go : (q : ℕ) (x y : List ℕ) → q < 2 →
        lent_both s (x ∷ y ∷ []) handles sizes ≡ lent_both s (set (x ∷ y ∷ []) q (get_or (x ∷ y ∷ []) q [])) handles sizes
    go zero x y h = refl
    go (suc zero) x y h = refl
    go (suc (suc q)) x y h = clash (omega arith)

-- what is ready for an arrival fits every call
pub ready-fits : (q kind : ℕ) (s : List ℕ) (both : List (List ℕ)) (handles sizes : List ℕ) → q < 2 →
    Ready (lent_both s both handles sizes) 1 →
    Fitting (eqb q 1) kind s (get_or both q []) (get_or both (1 - q) []) handles sizes
ready-fits zero kind s both handles sizes low (a, b, _, formed, h, z, room, _) = (a, b, formed, λ _. (h, z), λ _. omega arith)
ready-fits (suc zero) kind s both handles sizes low (a, _, c, formed, h, z, _, room) = (a, c, formed, λ _. (h, z), λ _. omega arith)
ready-fits (suc (suc q)) kind s both handles sizes low r = clash (omega arith)

module _ (s handles sizes calls : List ℕ) (at : ℕ) (word : ℕ) (s' o' handles' sizes' : List ℕ) where
  abbrev asks : ℕ
  asks = get_or calls (at + 5) 0

  abbrev Called : List (List ℕ) → (q kind : ℕ) → Type 0
  Called both q kind =
      Asked (eqb q 1) s (get_or both q []) (get_or both (1 - q) []) handles sizes calls at kind word s' o' handles' sizes'

  abbrev Stepped : List (List ℕ) → (q : ℕ) → Type 0
  Stepped both q = Step pair_bursts (lent_both s both handles sizes) calls at word (lent_both s' (set both q o') handles' sizes')

  first-called : (x y : List ℕ) (q kind : ℕ) → q ≡ 0 → kind ≡ asks → ltb asks 4 ≡ true → Called (x ∷ y ∷ []) q kind → Stepped (x ∷ y ∷ []) q
  first-called x y q kind eq ek l c =
      rw eq (first_step s x y handles sizes calls at l word s' o' handles' sizes' (rw (eq, ek) at c))

  second-called : (x y : List ℕ) (q kind : ℕ) → q ≡ 1 → kind ≡ asks - 4 → ltb asks 4 ≡ false → ltb asks 8 ≡ true →
      Called (x ∷ y ∷ []) q kind → Stepped (x ∷ y ∷ []) q
  second-called x y q kind eq ek k l c =
      rw eq (second-step s x y handles sizes calls at k l word s' o' handles' sizes' (rw (eq, ek) at c))

  -- the call on either queue, as its kind tells
  pub both-step : (both : List (List ℕ)) → length both ≡ 2 → ltb 7 asks ≡ false →
      Called both (asks / 4) (asks % 4) → Stepped both (asks / 4)
  both-step both two low =
      for-two (λ b. Called b (asks / 4) (asks % 4) → Stepped b (asks / 4))
      (λ x y c.
      let high : asks ≤ 7 = ltb-false 7 asks low in
      either_way (ltb asks 4)
      (λ l.
      let f = ltb-true asks 4 l in first-called x y (asks / 4) (asks % 4) (omega arith) (omega arith) l c)
      (λ l.
      let f = ltb-false asks 4 l in
      second-called x y (asks / 4) (asks % 4) (omega arith) (omega arith) l (lt-ltb asks 8 (omega arith)) c))
      both two
