-- The verdict and the accumulated probability, by the tests of rules 1 to 5.
use mathlib.Core.Path.{◌≡◌, refl, ap, sym, ◌∙◌}
use mathlib.Core.Bool.{Bool, true, false, cond, ◌||◌}
use mathlib.Core.List.{List}
use Prim.Native.Nat.{ℕ, ◌+◌}
use lib.Dec.{eqb, ltb}
use lib.ListN.{get_or, length, set}
use Rattle.laws.proofs.Choice.{either}
use Rattle.units.specs.Kinds.{none, prob}
use Rattle.units.specs.declared.Prob.{Prob}
use Rattle.pie.specs.DropDecision.{accumulated_after, drawn, drop_decision, early, early_verdict, marks, spared, sum_is_high, sum_is_low, sum_of}
use Rattle.pie.specs.Verdicts.{is_early, place_of}
use Rattle.pie.specs.declared.Pie.{Pie}
use Rattle.pie.specs.declared.Verdict.{Verdict}
use Rattle.pie.specs.declared.Verdict.TheVariants.{DroppedEarly, Enqueued, Marked}
use Rattle.ring.specs.Arrival.{verdict_of}
use Rattle.ring.proofs.Activation.{decided-alike, inactive-zero}
use Rattle.ring.proofs.Facts.{Facts}
use Rattle.pie_words.specs.Flags.{is_set}
use Rattle.pie_words.specs.Words.{pie_at}
use Rattle.ring_words.specs.Words.{state_of}
use Rattle.ring_steps.specs.Words.{decided_words, drawn_words}
use Rattle.ring_steps.proofs.Words.{undecided}

-- past rule 5 every verdict but an early one leaves the sum
drawn-sum : (pie : Pie) (target bytes : ℕ) (ecn : Bool) (u : ℕ) → spared pie target bytes ≡ false →
    cond (is_early (drawn pie ecn u)) none (sum_of pie) ≡ accumulated_after pie target bytes (drawn pie ecn u)
unfolding drawn accumulated_after
drawn-sum pie target bytes ecn u e =
    either P (sum_is_low (sum_of pie)) Enqueued _ kept
    (either P (sum_is_high (sum_of pie) || early pie.prob.0 u) (early_verdict pie.prob.0 ecn) Enqueued
    (either P (marks pie.prob.0 ecn) Marked DroppedEarly refl refl)
    kept)
  where
    P : Verdict → Type 0
    P v = cond (is_early v) none (sum_of pie) ≡ accumulated_after pie target bytes v

    kept : P Enqueued
    kept = rw e

either_way : (w : List ℕ) → length w ≡ 23 → (b : Bool) → w ≡ set w 8 (cond b (prob (get_or w 8 0)) (prob (get_or w 8 0))).0
either_way w long true = undecided w long
either_way w long false = undecided w long

module _ (w : List ℕ) (long : length w ≡ 23) (size : ℕ) (ecn : Bool) (u : ℕ) where
  -- a verdict's place, and the words after the rules
  abbrev pub Decided : (place : ℕ) (after : List ℕ) → Type 0
  Decided place after =
      (place ≡ place_of (verdict_of (state_of w) size ecn u)) × (after ≡ decided_words w (verdict_of (state_of w) size ecn u))

  -- rule 1
  pub bytes-decide : ltb (get_or w 1 0) (get_or w 14 0 + size) ≡ true → Decided 2 w
  unfolding state_of verdict_of accumulated_after
  bytes-decide e = rw e (refl, either_way w long (is_set (get_or w 22 0)))

  module _ (fit : ltb (get_or w 1 0) (get_or w 14 0 + size) ≡ false) where
    -- rule 2
    pub slots-decide : eqb (get_or w 13 0) (get_or w 2 0) ≡ true → Decided 3 w
    unfolding state_of verdict_of accumulated_after
    slots-decide e = rw (fit, e) (refl, either_way w long (is_set (get_or w 22 0)))

    module _ (free : eqb (get_or w 13 0) (get_or w 2 0) ≡ false) (known : Facts (state_of w)) where
      abbrev sum_after : Verdict → ℕ
      sum_after v = accumulated_after (pie_at w 5) (get_or w 0 0) (get_or w 14 0) v

      -- rules 3 to 7, in an inactive queue too
      ruled : (v : Verdict) → v ≡ drop_decision (pie_at w 5) (get_or w 0 0) (get_or w 14 0) ecn u → Decided (place_of v) (set w 8 (sum_after v))
      unfolding state_of verdict_of
      ruled v e =
          let k = decided-alike (is_set (get_or w 22 0)) (pie_at w 5) (get_or w 0 0) (get_or w 14 0) ecn u v (prob (sum_after v))
          (inactive-zero (state_of w) known) known.accumulated-high e refl in
          rw (fit, free, ← k.0) (refl, ap (λ (p : Prob). set w 8 p.0) k.1)

      -- rules 3 to 5
      pub spared-decide : spared (pie_at w 5) (get_or w 0 0) (get_or w 14 0) ≡ true → Decided 0 w
      unfolding drop_decision accumulated_after
      spared-decide e =
          let r = ruled Enqueued (rw e) in
          let same : sum_after Enqueued ≡ get_or w 8 0 = rw e in
          (r.0, undecided w long ∙ ap (λ (x : ℕ). set w 8 x) (sym same) ∙ r.1)

      -- rules 6 and 7
      pub drawn-decides : spared (pie_at w 5) (get_or w 0 0) (get_or w 14 0) ≡ false → (place : ℕ) (after : List ℕ) →
          place ≡ place_of (drawn (pie_at w 5) ecn u) → after ≡ drawn_words w (drawn (pie_at w 5) ecn u) → Decided place after
      unfolding drop_decision
      drawn-decides e place after f g =
          let r = ruled (drawn (pie_at w 5) ecn u) (rw e) in
          (f ∙ r.0, g ∙ ap (λ (x : ℕ). set w 8 x) (drawn-sum (pie_at w 5) (get_or w 0 0) (get_or w 14 0) ecn u e) ∙ r.1)

-- past rule 5, from what was read and drawn
pub drawn-written : (w : List ℕ) (ecn : Bool) (u : ℕ) (pie : Pie) (v : Verdict) (a : Prob) → pie ≡ pie_at w 5 → v ≡ drawn pie ecn u →
    a ≡ prob (cond (is_early v) none (sum_of pie)) → (x : Verdict) → v ≡ x →
    (place_of x ≡ place_of (drawn (pie_at w 5) ecn u)) × (set w 8 a.0 ≡ drawn_words w (drawn (pie_at w 5) ecn u))
drawn-written w ecn u pie v a read ev ea x e =
    let found = rw read at ev in
    let sum = rw (read, found) at ea in (ap place_of (sym e ∙ found), ap (λ (p : Prob). set w 8 p.0) sum)
