-- How many moves are left at most: a weight for each listed flow, which falls by one at each move of the flow.
use mathlib.Core.Path.{◌≡◌, refl, ap}
use mathlib.Core.Bool.{Bool, true, false, cond}
use mathlib.Core.List.{List, [], ◌∷◌, ◌++◌}
use Prim.Native.Nat.{ℕ, suc, ◌+◌, ◌-◌, ◌*◌, ◌/◌, ◌≤◌, ◌<◌}
use native.Mathlib.Omega.{arith}
use lib.Dec.{eqb}
use lib.ListN.{get_or, length, set}
use lib.Seq.{get_or-set_same, get_or-set_other}
use borrow.Author.Tests.{eq-eqb, eqb-true, eqb-false, le-ltb, lt-ltb, ltb-false, ne_eqb}
use Rattle.schedule.specs.Choosing.{has_none, owes, raised}
use Rattle.schedule.specs.TwoLists.{TwoLists, listed, occurs, quantum, zero_deficit}

-- ── a weight for each flow of a list ──

unfoldable pub weights : (weight : ℕ → ℕ) → List ℕ → ℕ
weights weight [] = 0
weights weight (x ∷ l) = weight x + weights weight l

pub weights-end : (w : ℕ → ℕ) (l : List ℕ) (x : ℕ) → weights w (l ++ x ∷ []) ≡ weights w l + w x
unfolding weights
weights-end w [] x = omega arith
weights-end w (y ∷ l) x = omega (arith, weights-end w l x)

pub weights-head : (w : ℕ → ℕ) (x : ℕ) (l : List ℕ) → weights w (x ∷ l) ≡ w x + weights w l
unfolding weights
weights-head w x l = refl

pub weights-none : (w : ℕ → ℕ) → weights w [] ≡ 0
unfolding weights
weights-none w = refl

-- a flow that is not in the list may have another weight
pub weights-same : (w v : ℕ → ℕ) (x : ℕ) (l : List ℕ) → ((j : ℕ) → (j ≡ x → ⊥) → w j ≡ v j) → occurs x l ≡ 0 → weights w l ≡ weights v l
unfolding weights occurs
weights-same w v x [] h z = refl
weights-same w v x (y ∷ l) h z = go (eqb y x) refl (weights-same w v x l h) z
  where
    go : (b : Bool) → eqb y x ≡ b → (occurs x l ≡ 0 → weights w l ≡ weights v l) → cond b 1 0 + occurs x l ≡ 0 →
        w y + weights w l ≡ v y + weights v l
    go true e next n = absurd (omega arith)
    go false e next n = omega (arith, next (omega arith), h y (eqb-false y x e))

pub weights-high : (w : ℕ → ℕ) (l : List ℕ) → ((j : ℕ) → w j ≤ 45) → weights w l ≤ 45 * length l
unfolding weights
weights-high w [] h = omega arith
weights-high w (x ∷ l) h = omega (arith, weights-high w l h, h x)

-- a flow of the list has less
pub weights-less : (w : ℕ → ℕ) (x : ℕ) (l : List ℕ) → ((j : ℕ) → w j ≤ 45) → w x ≤ 44 → 1 ≤ occurs x l → weights w l + 1 ≤ 45 * length l
unfolding weights occurs
weights-less w x [] h k p = absurd (omega arith)
weights-less w x (y ∷ l) h k p = go (eqb y x) refl (weights-less w x l h k) p
  where
    go : (b : Bool) → eqb y x ≡ b → (1 ≤ occurs x l → weights w l + 1 ≤ 45 * length l) → 1 ≤ cond b 1 0 + occurs x l →
        w y + weights w l + 1 ≤ 45 * suc (length l)
    go true e next n = omega (arith, weights-high w l h, ap w (eqb-true y x e))
    go false e next n = omega (arith, next (omega (arith, n)), h y)

-- ── the moves that are left ──

-- how many quanta make a deficit not negative
abbrev pub quanta : (deficit : ℕ) → ℕ
quanta deficit = (zero_deficit - deficit + 1513) / quantum

abbrev pub old_weight : (counts deficits : List ℕ) (flow : ℕ) → ℕ
old_weight counts deficits flow = quanta (get_or deficits flow 0) + cond (has_none counts flow) 1 0

-- an emptied flow that owes nothing goes to the old list and then leaves
abbrev pub new_weight : (counts deficits : List ℕ) (flow : ℕ) → ℕ
new_weight counts deficits flow = quanta (get_or deficits flow 0) + cond (has_none counts flow) (cond (owes deficits flow) 1 2) 0

unfoldable pub moves_left : (counts : List ℕ) → TwoLists → ℕ
moves_left counts l = weights (new_weight counts l.deficits) l.new + weights (old_weight counts l.deficits) l.old

module _ (counts ds : List ℕ) (x : ℕ) where
  -- another flow's weight stays
  pub old-same : (v j : ℕ) → (j ≡ x → ⊥) → old_weight counts (set ds x v) j ≡ old_weight counts ds j
  old-same v j h = rw (get_or-set_other ds x j v 0 h)

  pub new-same : (v j : ℕ) → (j ≡ x → ⊥) → new_weight counts (set ds x v) j ≡ new_weight counts ds j
  new-same v j h = rw (get_or-set_other ds x j v 0 h)

  -- a quantum takes one
  pub old-raised : x < length ds → get_or ds x 0 < zero_deficit → old_weight counts (raised ds x) x + 1 ≡ old_weight counts ds x
  old-raised h low = rw (get_or-set_same ds x (get_or ds x 0 + quantum) 0 h) (omega arith)

  pub new-raised : x < length ds → get_or ds x 0 < zero_deficit → old_weight counts (raised ds x) x + 1 ≡ new_weight counts ds x
  new-raised h low =
      rw (get_or-set_same ds x (get_or ds x 0 + quantum) 0 h, lt-ltb (get_or ds x 0) zero_deficit low) (omega arith)

  pub new-emptied : zero_deficit ≤ get_or ds x 0 → get_or counts x 0 ≡ 0 → old_weight counts ds x + 1 ≡ new_weight counts ds x
  new-emptied high none = rw (le-ltb (get_or ds x 0) zero_deficit high, eq-eqb (get_or counts x 0) 0 none) (omega arith)

  pub old-emptied : zero_deficit ≤ get_or ds x 0 → get_or counts x 0 ≡ 0 → old_weight counts ds x ≡ 1
  old-emptied high none = rw (eq-eqb (get_or counts x 0) 0 none) (omega arith)

  old-high : old_weight counts ds x ≤ 45
  old-high = go (has_none counts x)
    where
      go : (b : Bool) → quanta (get_or ds x 0) + cond b 1 0 ≤ 45
      go true = omega arith
      go false = omega arith

  new-high : new_weight counts ds x ≤ 45
  new-high = go (has_none counts x) (owes ds x) refl
    where
      go : (b c : Bool) → owes ds x ≡ c → quanta (get_or ds x 0) + cond b (cond c 1 2) 0 ≤ 45
      go true true e = omega arith
      go true false e = omega (arith, ltb-false (get_or ds x 0) zero_deficit e)
      go false c e = omega arith

  old-holds : (get_or counts x 0 ≡ 0 → ⊥) → old_weight counts ds x ≤ 44
  old-holds h = rw (ne_eqb (get_or counts x 0) 0 h) (omega arith)

  new-holds : (get_or counts x 0 ≡ 0 → ⊥) → new_weight counts ds x ≤ 44
  new-holds h = rw (ne_eqb (get_or counts x 0) 0 h) (omega arith)

-- 63 × 45 + 44
module _ (counts : List ℕ) (l : TwoLists) (x : ℕ) where
  abbrev new : ℕ → ℕ
  new = new_weight counts l.deficits

  abbrev old : ℕ → ℕ
  old = old_weight counts l.deficits

  pub moves-high : length l.new + length l.old ≤ 64 → 1 ≤ listed x l → (get_or counts x 0 ≡ 0 → ⊥) → moves_left counts l ≤ 2879
  unfolding moves_left
  moves-high room p held = go (eqb (occurs x l.new) 0) refl
    where
      go : (b : Bool) → eqb (occurs x l.new) 0 ≡ b → weights new l.new + weights old l.old ≤ 2879
      go true e =
          omega (
            arith,
            weights-high new l.new (new-high counts l.deficits),
            weights-less old x l.old (old-high counts l.deficits) (old-holds counts l.deficits x held)
                (omega (arith, eqb-true (occurs x l.new) 0 e)),
          )
      go false e =
          omega (
            arith,
            weights-high old l.old (old-high counts l.deficits),
            weights-less new x l.new (new-high counts l.deficits) (new-holds counts l.deficits x held)
                (omega (arith, eqb-false (occurs x l.new) 0 e)),
          )
