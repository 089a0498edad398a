-- Lists of flows: one is replaced, each is ticked; what holds of each, and their sums.
use mathlib.Core.Path.{◌≡◌, refl, sym}
use mathlib.Core.Bool.{Bool, true, false}
use mathlib.Core.List.{List, [], ◌∷◌, map}
use Prim.Native.Nat.{ℕ, zero, suc, ◌+◌, ◌≤◌, ◌<◌}
use native.Mathlib.Omega.{arith}
use borrow.Author.Tests.{eqb-false, eqb-true}
use lib.Dec.{eqb}
use lib.ListN.{get_or, length, set}
use lib.Seq.{get_or-set_other, get_or-set_same}
use Rattle.laws.specs.Tests.{all}
use Rattle.laws.proofs.Tests.{and_left, and_right}
use Rattle.pie.specs.Verdicts.{total}
use Rattle.fq_state.specs.State.{flow_at}
use Rattle.fq_state.specs.WellFormed.{flow_conditions, flows_fit}
use Rattle.fq_state.specs.declared.Common.{Common}
use Rattle.fq_state.specs.declared.Flow.{Flow}

-- ── one element ──

pub at_map : {A B : Type 0} (f : A → B) (l : List A) (i : ℕ) (a : A) (b : B) → i < length l → get_or (map f l) i b ≡ f (get_or l i a)
at_map f [] i a b h = absurd (omega arith)
at_map f (x ∷ l) zero a b h = refl
at_map f (x ∷ l) (suc i) a b h = at_map f l i a b (omega arith)

-- what holds of the new element and of the old ones holds of each
pub at_set : {A : Type 0} (P : A → Type 0) (l : List A) (i j : ℕ) (a d : A) → j < length l → P a → P (get_or l j d) → P (get_or (set l i a) j d)
at_set P l i j a d h new old = go (eqb j i) refl
  where
    go : (b : Bool) → eqb j i ≡ b → P (get_or (set l i a) j d)
    go true e = rw (sym (eqb-true j i e), get_or-set_same l j a d h) new
    go false e = rw (get_or-set_other l i j a d (eqb-false j i e)) old

-- ── sums ──

-- what is taken out and what is put in
pub total-set : {A : Type 0} (g : A → ℕ) (l : List A) (i : ℕ) (a d : A) → i < length l →
    total (map g (set l i a)) + g (get_or l i d) ≡ total (map g l) + g a
total-set g [] i a d h = absurd (omega arith)
total-set g (x ∷ l) zero a d h = omega arith
total-set g (x ∷ l) (suc i) a d h = omega (arith, total-set g l i a d (omega arith))

pub part-of-total : {A : Type 0} (g : A → ℕ) (l : List A) (i : ℕ) (d : A) → i < length l → g (get_or l i d) ≤ total (map g l)
part-of-total g [] i d h = absurd (omega arith)
part-of-total g (x ∷ l) zero d h = omega arith
part-of-total g (x ∷ l) (suc i) d h = omega (arith, part-of-total g l i d (omega arith))

pub map_same : {A B : Type 0} (g : A → B) (f : A → A) → ((a : A) → g (f a) ≡ g a) → (l : List A) → map g (map f l) ≡ map g l
map_same g f h [] = refl
map_same g f h (x ∷ l) = rw (h x, map_same g f h l)

-- ── each flow passes its tests ──

abbrev pub Passes : Common → Flow → Type 0
Passes c f = all (flow_conditions c f) ≡ true

pub each-passes : (c : Common) (flows : List Flow) → flows_fit c flows ≡ true → (i : ℕ) → i < length flows → Passes c (flow_at flows i)
unfolding flows_fit
each-passes c [] e i h = absurd (omega arith)
each-passes c (f ∷ flows) e zero h = and_left (all (flow_conditions c f)) (flows_fit c flows) e
each-passes c (f ∷ flows) e (suc i) h =
    each-passes c flows (and_right (all (flow_conditions c f)) (flows_fit c flows) e) i (omega arith)

pub all-fit : (c : Common) (flows : List Flow) → ((i : ℕ) → i < length flows → Passes c (flow_at flows i)) → flows_fit c flows ≡ true
unfolding flows_fit
all-fit c [] h = refl
all-fit c (f ∷ flows) h = rw (h 0 (omega arith), all-fit c flows (λ i l. h (suc i) (omega arith)))
