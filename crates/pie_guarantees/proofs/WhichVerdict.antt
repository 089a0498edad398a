-- Each rule's test says whether the rule holds, and the first that holds decides.
use mathlib.Core.Path.{◌≡◌, refl, sym, subst, ◌∙◌}
use mathlib.Core.Bool.{Bool, true, false, cond, false≢true}
use mathlib.Core.Logic.{◌⊎◌, ◌↔◌, inl, inr, ⊎_elim}
use Prim.Native.Nat.{ℕ, ◌*◌, ◌<◌}
use native.Mathlib.Omega.{arith}
use borrow.Author.Tests.{leb-false, leb-true, ltb-false, ltb-true}
use lib.Dec.{ltb}
use Rattle.units.specs.Kinds.{tenth, whole}
use Rattle.pie.specs.DropDecision.{drawn, drop_decision, early, early_verdict, in_allowance, is_small, lightly_loaded, marks, spared}
use Rattle.pie.specs.DropDecision.{sum_is_high, sum_is_low, sum_of}
use Rattle.pie.specs.declared.Pie.{Pie}
use Rattle.pie.specs.declared.Verdict.{Verdict}
use Rattle.pie.specs.declared.Verdict.TheVariants.{Enqueued, Marked, DroppedBytes, DroppedSlots, DroppedEarly}
use Rattle.pie_guarantees.specs.WhichVerdict.{Drawn, EarlyGrounds, Grounds, HighSum, Limits, LowSum, Marks}
use Rattle.pie_guarantees.specs.WhichVerdict.{Rule3, Rule4, Rule5, Rule6}
use Rattle.pie_guarantees.proofs.Says.{Says, both_say, by-test, either-says, fails, holds}

-- ── rules 3 to 7 ──

module _ (pie : Pie) (target bytes : ℕ) (ecn : Bool) (u : ℕ) where
  rule-3 : Says (in_allowance pie) (Rule3 pie)
  rule-3 = omega (arith, ltb-true, ltb-false)

  rule-4 : Says (lightly_loaded pie target) (Rule4 pie target)
  rule-4 = both_say (delay) (low)
    where
      delay : Says (ltb (2 * pie.old.0) target) (2 * pie.old.0 < target)
      delay = omega (arith, ltb-true, ltb-false)

      low : Says (ltb (5 * pie.prob.0) whole) (5 * pie.prob.0 < whole)
      low = omega (arith, ltb-true, ltb-false)

  rule-5 : Says (is_small bytes) (Rule5 bytes)
  rule-5 = omega (arith, leb-true, leb-false)

  rules-3-to-5 : Says (spared pie target bytes) ((Rule3 pie ⊎ Rule4 pie target) ⊎ Rule5 bytes)
  rules-3-to-5 = either-says (either-says rule-3 rule-4) rule-5

  low_sum : Says (sum_is_low (sum_of pie)) (LowSum pie)
  low_sum = omega (arith, ltb-true, ltb-false)

  high_sum : Says (sum_is_high (sum_of pie)) (HighSum pie)
  high_sum = omega (arith, leb-true, leb-false)

  u-early : Says (early pie.prob.0 u) (Drawn pie u)
  u-early = omega (arith, ltb-true, ltb-false)

  rule-6-marks : Says (marks pie.prob.0 ecn) (Marks pie ecn)
  rule-6-marks = both_say (λ e. e, λ e h. false≢true (sym e ∙ h)) low
    where
      low : Says (ltb pie.prob.0 tenth) (pie.prob.0 < tenth)
      low = omega (arith, ltb-true, ltb-false)

  none-spares : ¬ ((Rule3 pie ⊎ Rule4 pie target) ⊎ Rule5 bytes) → ¬ Rule3 pie × ¬ Rule4 pie target × ¬ Rule5 bytes
  none-spares f = (λ h3. f (inl (inl h3)), λ h4. f (inl (inr h4)), λ h5. f (inr h5))

  -- past rules 1 to 5
  early-given : ¬ Rule3 pie → ¬ Rule4 pie target → ¬ Rule5 bytes → Rule6 pie u →
      drop_decision pie target bytes ecn u ≡ early_verdict pie.prob.0 ecn
  unfolding drop_decision drawn
  early-given f3 f4 f5 (due, e) =
      rw (fails rules-3-to-5 (⊎_elim (⊎_elim f3 f4) f5), fails low_sum due, holds (either-says high_sum u-early) e)

  spared-given : Rule3 pie ⊎ Rule4 pie target ⊎ Rule5 bytes ⊎ ¬ Rule6 pie u → drop_decision pie target bytes ecn u ≡ Enqueued
  unfolding drop_decision drawn
  spared-given g =
      let E : Verdict → Type 0 = λ v. v ≡ Enqueued in
      by-test E Enqueued _ rules-3-to-5 (λ h. refl)
      (λ f. by-test E Enqueued _ low_sum (λ low. refl)
      (λ due. by-test E (early_verdict pie.prob.0 ecn) Enqueued (either-says high_sum u-early)
      (λ e.
      let n = none-spares f in
      absurd (⊎_elim n.0 (⊎_elim n.1 (⊎_elim n.2 (λ f6. f6 (due, e)))) g))
      (λ f6. refl)))

  -- ── the first that holds decides ──

  module _ (l : Limits) where
    abbrev Q : Verdict → Type 0
    Q = Grounds l pie target bytes ecn u

    spares : (Rule3 pie ⊎ Rule4 pie target) ⊎ Rule5 bytes →
        l.Inactive ⊎ Rule3 pie ⊎ Rule4 pie target ⊎ Rule5 bytes ⊎ ¬ Rule6 pie u
    spares = ⊎_elim (⊎_elim (λ h3. inr (inl h3)) (λ h4. inr (inr (inl h4)))) (λ h5. inr (inr (inr (inl h5))))

    -- the verdict of an active queue past rules 1 and 2 has its grounds
    active-grounds : ¬ l.Rule1 → ¬ l.Rule2 → ¬ l.Inactive → Q (drop_decision pie target bytes ecn u)
    unfolding drop_decision drawn
    active-grounds f1 f2 a =
        by-test Q Enqueued _ rules-3-to-5 (λ h. (f1, f2, spares h))
        (λ f. by-test Q Enqueued _ low_sum (λ low. (f1, f2, inr (inr (inr (inr (λ r6. r6.0 low))))))
        (λ due. by-test Q (early_verdict pie.prob.0 ecn) Enqueued (either-says high_sum u-early)
        (λ e.
        let n = none-spares f in
        by-test Q Marked DroppedEarly rule-6-marks
        (λ m. ((f1, f2, a, n.0, n.1, n.2, (due, e)), m))
        (λ m. ((f1, f2, a, n.0, n.1, n.2, (due, e)), m)))
        (λ f6. (f1, f2, inr (inr (inr (inr (λ r6. f6 r6.1))))))))

    module _ (one two inactive : Bool) (says-1 : Says one l.Rule1) (says-2 : Says two l.Rule2) (says : Says inactive l.Inactive) where
      -- rules 1 to 7, by these tests
      abbrev pub decided : Verdict
      decided = cond one DroppedBytes (cond two DroppedSlots (cond inactive Enqueued (drop_decision pie target bytes ecn u)))

      grounds : Q decided
      grounds =
          by-test Q DroppedBytes _ says-1 (λ h1. h1)
          (λ f1. by-test Q DroppedSlots _ says-2 (λ h2. (f1, h2))
          (λ f2. by-test Q Enqueued _ says (λ i. (f1, f2, inl i)) (λ a. active-grounds f1 f2 a)))

      enqueued-given : l.Inactive ⊎ Rule3 pie ⊎ Rule4 pie target ⊎ Rule5 bytes ⊎ ¬ Rule6 pie u →
          cond inactive Enqueued (drop_decision pie target bytes ecn u) ≡ Enqueued
      enqueued-given g =
          by-test (λ v. v ≡ Enqueued) Enqueued _ says (λ i. refl) (λ a. ⊎_elim (λ i. absurd (a i)) spared-given g)

      past-2 : EarlyGrounds l pie target bytes u → decided ≡ early_verdict pie.prob.0 ecn
      past-2 (f1, f2, a, f3, f4, f5, r6) = rw (fails says-1 f1, fails says-2 f2, fails says a) (early-given f3 f4 f5 r6)

      -- where a verdict has its grounds, it is given
      given : (w : Verdict) → Q w → decided ≡ w
      given DroppedBytes g = rw (holds says-1 g)
      given DroppedSlots g = rw (fails says-1 g.0, holds says-2 g.1)
      given Enqueued (f1, f2, g) = rw (fails says-1 f1, fails says-2 f2) (enqueued-given g)
      given Marked (g, m) = past-2 g ∙ rw (holds rule-6-marks m)
      given DroppedEarly (g, m) = past-2 g ∙ rw (fails rule-6-marks m)

      -- a verdict that is decided so is w exactly when the rules ask for w
      pub exactly-when : (v : Verdict) → decided ≡ v → (w : Verdict) → (v ≡ w) ↔ Grounds l pie target bytes ecn u w
      exactly-when v e w = (λ same. subst Q (e ∙ same) grounds, λ g. sym e ∙ given w g)

-- of a kind that has no profile
pub never-inactive : Says false ⊥
never-inactive = (λ e. absurd (false≢true e), λ e i. i)
