-- Question 1 for a modem's flow: each rule's test says whether the rule holds, and the first that holds decides.
use mathlib.Core.Path.{◌≡◌, refl, sym, subst, ap, ◌∙◌}
use mathlib.Core.Bool.{Bool, true, false, cond, ◌&&◌}
use mathlib.Core.List.{List}
use mathlib.Core.Logic.{◌⊎◌, inl, inr, ⊎_elim}
use Prim.Native.Nat.{ℕ, zero, suc, ◌+◌, ◌*◌, ◌<◌, min}
use native.Mathlib.Omega.{arith}
use borrow.Author.Tests.{eqb-false, eqb-true, leb-false, leb-true, ltb-false, ltb-true}
use lib.Dec.{eqb, leb, ltb}
use lib.ListN.{length}
use Rattle.units.specs.Kinds.{none, whole}
use Rattle.units.specs.declared.Prob.{Prob}
use Rattle.pie.specs.declared.Verdict.{Verdict}
use Rattle.pie.specs.declared.Verdict.TheVariants.{Enqueued, Marked, DroppedBytes, DroppedSlots, DroppedEarly}
use Rattle.refusals.specs.Answer.{verdict}
use Rattle.modem_guarantees.proofs.Says.{Says, both_say, by-test, either-says, fails, holds}
use Rattle.docsis_pie.specs.Constants.{high, inactive, low, quiescent, small_queue}
use Rattle.docsis_pie.specs.DropDecision.{cleared, decided, drawn, drawn_with, enqueued_with, in_allowance, is_inactive, no_longer_inactive}
use Rattle.docsis_pie.specs.DropDecision.{scaled_of, stays_inactive, summed, with_accumulated, with_activity}
use Rattle.docsis_pie.specs.declared.Decided.{Decided}
use Rattle.docsis_pie.specs.declared.DocsisPie.{DocsisPie}
use Rattle.modem_flow.specs.Answer.{Reply, unless_refused}
use Rattle.modem_flow.specs.Arrival.{arrival, arrival_refusal, bytes_full, decision_of, slots_full}
use Rattle.modem_flow.specs.declared.State.{State}
use Rattle.modem_guarantees.specs.WhichVerdict.{Grounds, Rule1, Rule10, Rule11, Rule12, Rule13, Rule2, Rule3, Rule5, Rule9}
use Rattle.modem_guarantees.specs.WhichVerdict.{Scaled, Sum, WhichVerdict}

-- ── the record after rule 8 ──

abbrev after8 : DocsisPie → (size : ℕ) → DocsisPie
after8 pie size = summed (no_longer_inactive (cleared pie)) (scaled_of pie.prob.0 size)

moved : (b : Bool) (p : DocsisPie) →
    let q = cond b (with_activity p quiescent) p in
    (q.old ≡ p.old) × (q.prob ≡ p.prob) × (q.accumulated ≡ p.accumulated)
moved true p = (refl, refl, refl)
moved false p = (refl, refl, refl)

began : (b : Bool) (p : DocsisPie) →
    let q = cond b (with_accumulated p none) p in
    (q.old ≡ p.old) × (q.prob ≡ p.prob) × (q.accumulated.0 ≡ cond b 0 p.accumulated.0)
began true p = (refl, refl, refl)
began false p = (refl, refl, refl)

module _ (pie : DocsisPie) (size : ℕ) where
  abbrev is_none : Bool
  is_none = eqb pie.prob.0 none

  abbrev was_inactive : Bool
  was_inactive = is_inactive (cleared pie)

  old-8 : (after8 pie size).old ≡ pie.old
  old-8 = (moved was_inactive (cleared pie)).0 ∙ (began is_none pie).0

  prob-8 : (after8 pie size).prob ≡ pie.prob
  prob-8 = (moved was_inactive (cleared pie)).1 ∙ (began is_none pie).1

  sum-8 : (no_longer_inactive (cleared pie)).accumulated.0 ≡ cond is_none 0 pie.accumulated.0
  sum-8 = ap (λ (p : Prob). p.0) (moved was_inactive (cleared pie)).2 ∙ (began is_none pie).2

verdict-in : (b : Bool) (x y : Decided) → (cond b x y).verdict ≡ cond b x.verdict y.verdict
verdict-in true x y = refl
verdict-in false x y = refl

module _ (s : State) (size u : ℕ) where
  rule-1 : Says (bytes_full s size) (Rule1 s size)
  rule-1 = omega (arith, ltb-true, ltb-false)

  rule-2 : Says (slots_full s) (Rule2 s)
  rule-2 = omega (arith, eqb-true, eqb-false)

  rule-3 : Says (in_allowance s.pie) (Rule3 s)
  rule-3 = omega (arith, ltb-true, ltb-false)

  rule-5 : Says (stays_inactive s.pie s.settings.buffer.0 s.backlog.bytes.0) (Rule5 s)
  rule-5 = both_say still few
    where
      still : Says (is_inactive s.pie) (s.pie.phase.activity.0 ≡ inactive)
      still = omega (arith, eqb-true, eqb-false)

      few : Says (ltb (3 * s.backlog.bytes.0) s.settings.buffer.0) (3 * s.backlog.bytes.0 < s.settings.buffer.0)
      few = omega (arith, ltb-true, ltb-false)

  rule-9 : Says (ltb (2 * s.pie.old.0) s.settings.target.0 && ltb (5 * s.pie.prob.0) whole) (Rule9 s)
  rule-9 = both_say delay chance
    where
      delay : Says (ltb (2 * s.pie.old.0) s.settings.target.0) (2 * s.pie.old.0 < s.settings.target.0)
      delay = omega (arith, ltb-true, ltb-false)

      chance : Says (ltb (5 * s.pie.prob.0) whole) (5 * s.pie.prob.0 < whole)
      chance = omega (arith, ltb-true, ltb-false)

  rule-10 : Says (leb s.backlog.bytes.0 small_queue) (Rule10 s)
  rule-10 = omega (arith, leb-true, leb-false)

  rule-11 : Says (ltb (Sum s size) low) (Rule11 s size)
  rule-11 = (ltb-true (Sum s size) low, λ e h. omega (arith, ltb-false (Sum s size) low e, h))

  rule-12 : Says (eqb (Sum s size) high) (Rule12 s size)
  rule-12 = (eqb-true (Sum s size) high, eqb-false (Sum s size) high)

  rule-13 : Says (ltb u (Scaled s size)) (Rule13 s size u)
  rule-13 = (ltb-true u (Scaled s size), λ e h. omega (arith, ltb-false u (Scaled s size) e, h))

  -- rules 9 to 14 by plain numbers
  abbrev plain : Verdict
  plain =
      cond (ltb (2 * s.pie.old.0) s.settings.target.0 && ltb (5 * s.pie.prob.0) whole) Enqueued
      (cond (leb s.backlog.bytes.0 small_queue) Enqueued
      (cond (ltb (Sum s size) low) Enqueued
      (cond (eqb (Sum s size) high) DroppedEarly
      (cond (ltb u (Scaled s size)) DroppedEarly
      Enqueued))))

  plain-drawn : drawn (after8 s.pie size) s.settings.target.0 s.backlog.bytes.0 (scaled_of s.pie.prob.0 size) u ≡ plain
  unfolding drawn scaled_of
  plain-drawn = rw (old-8 s.pie size, prob-8 s.pie size, sum-8 s.pie size)

  -- rules 1 to 15 by plain numbers
  abbrev given-verdict : Verdict
  given-verdict =
      cond (bytes_full s size) DroppedBytes
      (cond (slots_full s) DroppedSlots
      (cond (in_allowance s.pie) Enqueued
      (cond (stays_inactive s.pie s.settings.buffer.0 s.backlog.bytes.0) Enqueued plain)))

  by-rules : (decision_of s size u).verdict ≡ given-verdict
  unfolding decision_of decided drawn_with
  by-rules =
      simp verdict-in (rw plain-drawn)

  abbrev Q : Verdict → Type 0
  Q = Grounds s size u

  grounds : Q given-verdict
  grounds =
      by-test Q DroppedBytes _ rule-1 (λ h. h)
      (λ f1. by-test Q DroppedSlots _ rule-2 (λ h. (f1, h))
      (λ f2. by-test Q Enqueued _ rule-3 (λ h. (f1, f2, inl h))
      (λ f3. by-test Q Enqueued _ rule-5 (λ h. (f1, f2, inr (inl h)))
      (λ f5. by-test Q Enqueued _ rule-9 (λ h. (f1, f2, inr (inr (inl h))))
      (λ f9. by-test Q Enqueued _ rule-10 (λ h. (f1, f2, inr (inr (inr (inl h)))))
      (λ f10. by-test Q Enqueued _ rule-11 (λ h. (f1, f2, inr (inr (inr (inr (inl h))))))
      (λ f11. by-test Q DroppedEarly _ rule-12 (λ h. (f1, f2, f3, f5, f9, f10, f11, inl h))
      (λ f12. by-test Q DroppedEarly Enqueued rule-13 (λ h. (f1, f2, f3, f5, f9, f10, f11, inr h))
      (λ f13. (f1, f2, inr (inr (inr (inr (inr (⊎_elim f12 f13)))))))))))))))

  -- no verdict but enqueued where the rules ask for it
  spared : Rule3 s ⊎ Rule5 s ⊎ Rule9 s ⊎ Rule10 s ⊎ Rule11 s size ⊎ ¬ (Rule12 s size ⊎ Rule13 s size u) →
      cond (in_allowance s.pie) Enqueued
      (cond (stays_inactive s.pie s.settings.buffer.0 s.backlog.bytes.0) Enqueued plain)
      ≡ Enqueued
  spared g =
      let E : Verdict → Type 0 = λ v. v ≡ Enqueued in
      by-test E Enqueued _ rule-3 (λ h. refl)
      (λ f3. by-test E Enqueued _ rule-5 (λ h. refl)
      (λ f5. by-test E Enqueued _ rule-9 (λ h. refl)
      (λ f9. by-test E Enqueued _ rule-10 (λ h. refl)
      (λ f10. by-test E Enqueued _ rule-11 (λ h. refl)
      (λ f11.
      let none : Rule12 s size ⊎ Rule13 s size u → ⊥ =
      λ e. ⊎_elim f3 (⊎_elim f5 (⊎_elim f9 (⊎_elim f10 (⊎_elim f11 (λ f. f e))))) g in
      by-test E DroppedEarly _ rule-12 (λ h. absurd (none (inl h)))
      (λ f12. by-test E DroppedEarly Enqueued rule-13 (λ h. absurd (none (inr h))) (λ f. refl)))))))

  drops : Rule12 s size ⊎ Rule13 s size u →
      cond (eqb (Sum s size) high) DroppedEarly (cond (ltb u (Scaled s size)) DroppedEarly Enqueued) ≡ DroppedEarly
  drops e =
      let D : Verdict → Type 0 = λ v. v ≡ DroppedEarly in
      by-test D DroppedEarly _ rule-12 (λ h. refl)
      (λ f12. by-test D DroppedEarly Enqueued rule-13 (λ h. refl) (λ f13. absurd (⊎_elim f12 f13 e)))

  -- where a verdict has its grounds, it is given
  given : (w : Verdict) → Q w → given-verdict ≡ w
  given DroppedBytes g = rw (holds rule-1 g)
  given DroppedSlots (f1, h2) = rw (fails rule-1 f1, holds rule-2 h2)
  given Enqueued (f1, f2, g) = rw (fails rule-1 f1, fails rule-2 f2) (spared g)
  given DroppedEarly (f1, f2, f3, f5, f9, f10, f11, e) =
      rw (fails rule-1 f1, fails rule-2 f2, fails rule-3 f3, fails rule-5 f5, fails rule-9 f9, fails rule-10 f10, fails rule-11 f11)
      (drops e)
  given Marked g = absurd g

-- a reply that is a verdict is the accepted one
accepted-verdict : (n : ℕ) (s : State) (r : Reply) (x v : Verdict) → r.answer ≡ verdict x →
    (unless_refused n s r).answer ≡ verdict v → x ≡ v
accepted-verdict zero s r x v e given = cc
accepted-verdict (suc n) s r x v e given = cc

decided-verdict : (s : State) (row handles sizes : List ℕ) (clock size u : ℕ) (v : Verdict) →
    (arrival s row handles sizes clock size u).answer ≡ verdict v → (decision_of s size u).verdict ≡ v
unfolding arrival
decided-verdict s row handles sizes clock size u v e =
    accepted-verdict (arrival_refusal s row (length handles) (length sizes) clock size) s _ _ v refl e

pub which-verdict : WhichVerdict
which-verdict s row handles sizes clock size u v e w =
    let d = sym (by-rules s size u) ∙ decided-verdict s row handles sizes clock size u v e in
    (λ same. subst (Grounds s size u) (d ∙ same) (grounds s size u), λ g. sym d ∙ given s size u w g)
