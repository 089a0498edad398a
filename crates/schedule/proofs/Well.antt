-- What well-formed lists say as orders and equations, and back.
use mathlib.Core.Path.{◌≡◌, refl, ap, ◌∙◌}
use mathlib.Core.Bool.{Bool, true, false, ◌&&◌, ◌||◌}
use mathlib.Core.List.{List, [], ◌∷◌}
use Prim.Native.Nat.{ℕ, zero, suc, ◌≤◌, ◌<◌}
use native.Mathlib.Omega.{arith}
use lib.Dec.{eqb, leb, ltb}
use lib.ListN.{get_or, length, get_or-eq_default}
use borrow.Author.Tests.{eq-eqb, ne_eqb, eqb-true, eqb-false, leb-true, le-leb, ltb-true, ltb-false}
use Rattle.laws.proofs.Tests.{and_left, and_right}
use Rattle.schedule.specs.TwoLists.{TwoLists, deficit_of, listed, occurs}
use Rattle.schedule.specs.WellFormed.{are_flows, every, flow_fits, lists_well}

abbrev pub highest : ℕ
highest = 67049

-- of two lists, with the packets of each flow
pub record Facts (counts : List ℕ) (l : TwoLists) : Type 0 where
  pub flows-only : (j : ℕ) → 64 ≤ j → listed j l ≡ 0
  pub once : (j : ℕ) → j < 64 → listed j l ≤ 1
  pub held : (j : ℕ) → j < 64 → (get_or counts j 0 ≡ 0 → ⊥) → 1 ≤ listed j l
  pub range : (j : ℕ) → j < 64 → get_or l.deficits j 0 ≤ highest

-- ── tests of all flows ──

pub less : (i n : ℕ) → i < suc n → (i ≡ n → ⊥) → i < n
less i n p q = omega arith

every-at : (n : ℕ) (t : ℕ → Bool) → every n t ≡ true → (j : ℕ) → j < n → t j ≡ true
unfolding every
every-at zero t h j p = absurd (omega arith)
every-at (suc n) t h j p = go (eqb j n) refl (every-at n t (and_left (every n t) (t n) h))
  where
    go : (b : Bool) → eqb j n ≡ b → ((j : ℕ) → j < n → t j ≡ true) → t j ≡ true
    go true e below = ap t (eqb-true j n e) ∙ and_right (every n t) (t n) h
    go false e below = below j (less j n p (eqb-false j n e))

every_of : (n : ℕ) (t : ℕ → Bool) → ((j : ℕ) → j < n → t j ≡ true) → every n t ≡ true
unfolding every
every_of zero t h = refl
every_of (suc n) t h = rw (every_of n t (λ j p. h j (omega arith)), h n (omega arith)) refl

-- a && b && c nests to the left
all_three : (a b c : Bool) → ((a && b) && c) ≡ true → (a ≡ true) × (b ≡ true) × (c ≡ true)
all_three a b c h = (and_left a b (and_left (a && b) c h), and_right a b (and_left (a && b) c h), and_right (a && b) c h)

fits-facts : (n c d : ℕ) → flow_fits n c d ≡ true → (n ≤ 1) × ((c ≡ 0 → ⊥) → 1 ≤ n) × (d ≤ highest)
fits-facts n c d h =
    let t = all_three (leb n 1) (eqb c 0 || leb 1 n) (leb d highest) h in
    (leb-true n 1 t.0, held (eqb c 0) refl t.1, leb-true d highest t.2)
  where
    held : (b : Bool) → eqb c 0 ≡ b → (b || leb 1 n) ≡ true → (c ≡ 0 → ⊥) → 1 ≤ n
    held true e t k = absurd (k (eqb-true c 0 e))
    held false e t k = leb-true 1 n t

facts-fits : (n c d : ℕ) → n ≤ 1 → ((c ≡ 0 → ⊥) → 1 ≤ n) → d ≤ highest → flow_fits n c d ≡ true
facts-fits n c d a b k = rw (le-leb n 1 a, le-leb d highest k) (go (eqb c 0) refl)
  where
    go : (e : Bool) → eqb c 0 ≡ e → ((true && (e || leb 1 n)) && true) ≡ true
    go true e = refl
    go false e = rw (le-leb 1 n (b (eqb-false c 0 e))) refl

-- ── numbers of flows ──

flows-high : (j : ℕ) (l : List ℕ) → are_flows l ≡ true → 64 ≤ j → occurs j l ≡ 0
unfolding are_flows occurs
flows-high j [] h k = refl
flows-high j (x ∷ l) h k =
    let low : x < 64 = ltb-true x 64 (and_left (ltb x 64) (are_flows l) h) in
    rw (ne_eqb x j (λ q. omega arith), flows-high j l (and_right (ltb x 64) (are_flows l) h) k) refl

flows-of : (l : List ℕ) → ((j : ℕ) → 64 ≤ j → occurs j l ≡ 0) → are_flows l ≡ true
unfolding are_flows occurs
flows-of [] h = refl
flows-of (x ∷ l) h = go (ltb x 64) refl (flows-of l (λ j k. omega (arith, h j k)))
  where
    go : (b : Bool) → ltb x 64 ≡ b → are_flows l ≡ true → (b && are_flows l) ≡ true
    go true e t = t
    go false e t = absurd (let q = rw (eq-eqb x x refl) at (h x (ltb-false x 64 e)) in omega (arith, q))

-- ── the whole test ──

module _ (counts : List ℕ) (l : TwoLists) where
  abbrev tests : ℕ → Bool
  tests flow = flow_fits (listed flow l) (get_or counts flow 0) (deficit_of l flow)

  pub parts : lists_well counts l ≡ true → (are_flows l.new ≡ true) × (are_flows l.old ≡ true) × (every 64 tests ≡ true)
  unfolding lists_well
  parts h = all_three (are_flows l.new) (are_flows l.old) (every 64 tests) h

  pub facts-of : lists_well counts l ≡ true → Facts counts l
  facts-of h =
      let p = parts h in
      let each : (j : ℕ) → j < 64 → (listed j l ≤ 1) × ((get_or counts j 0 ≡ 0 → ⊥) → 1 ≤ listed j l) × (deficit_of l j ≤ highest) =
      λ j q. fits-facts (listed j l) (get_or counts j 0) (deficit_of l j) (every-at 64 tests p.2 j q) in
      record {
        flows-only = λ j k. omega (arith, flows-high j l.new p.0 k, flows-high j l.old p.1 k);
        once = λ j q. (each j q).0;
        held = λ j q k. (each j q).1 k;
        range = λ j q. (each j q).2;
      }

  pub well-of : Facts counts l → lists_well counts l ≡ true
  unfolding lists_well
  well-of k =
      rw (
        flows-of l.new (λ j h. omega (arith, k.flows-only j h)),
        flows-of l.old (λ j h. omega (arith, k.flows-only j h)),
      )
      (every_of 64 tests
      (λ j p. facts-fits (listed j l) (get_or counts j 0) (deficit_of l j) (k.once j p) (k.held j p) (k.range j p)))

-- a flow beyond the deficits has none
pub range_at : (ds : List ℕ) → length ds ≡ 64 → ((j : ℕ) → j < 64 → get_or ds j 0 ≤ highest) → (j : ℕ) → get_or ds j 0 ≤ highest
range_at ds l r j = go (ltb j 64) refl
  where
    go : (b : Bool) → ltb j 64 ≡ b → get_or ds j 0 ≤ highest
    go true e = r j (ltb-true j 64 e)
    go false e = let k : length ds ≤ j = omega (arith, ltb-false j 64 e) in rw (get_or-eq_default ds 0 k) (omega arith)
