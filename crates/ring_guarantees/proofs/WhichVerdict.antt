-- Question 1: each rule's test says whether the rule holds, and the first that holds decides.
use mathlib.Core.Path.{◌≡◌, refl, sym, subst, ◌∙◌}
use mathlib.Core.Bool.{Bool, true, false, cond, ◌&&◌, ◌||◌, false≢true, true≢false}
use mathlib.Core.Logic.{◌⊎◌, inl, inr, ⊎_elim}
use Prim.Native.Nat.{ℕ, ◌*◌}
use native.Mathlib.Omega.{arith}
use borrow.Author.Tests.{eqb-false, eqb-true, leb-false, leb-true, lt-ltb, ltb-false, ltb-true}
use lib.Dec.{ltb}
use Rattle.units.specs.Kinds.{tenth, whole}
use Rattle.pie.specs.DropDecision.{drawn, drop_decision, early, early_verdict, in_allowance, is_small, lightly_loaded, marks, spared}
use Rattle.pie.specs.DropDecision.{sum_is_high, sum_is_low, sum_of}
use Rattle.pie.specs.declared.Verdict.{Verdict}
use Rattle.pie.specs.declared.Verdict.TheVariants.{Enqueued, Marked, DroppedBytes, DroppedSlots, DroppedEarly}
use Rattle.laws.proofs.Choice.{at-cond, either}
use Rattle.laws.proofs.Tests.{and_left, and_right}
use Rattle.ring.specs.declared.State.{State}
use Rattle.ring.specs.Arrival.{bytes_full, slots_full, verdict_of}
use Rattle.ring.proofs.Activation.{verdict-begun}
use Rattle.ring_guarantees.specs.WhichVerdict.{Drawn, EarlyGrounds, Grounds, HighSum, Inactive, LowSum, Marks, WhichVerdict}
use Rattle.ring_guarantees.specs.WhichVerdict.{Rule1, Rule2, Rule3, Rule4, Rule5, Rule6}
use Rattle.ring_guarantees.proofs.Replies.{decided-verdict}

-- ── tests ──

-- the test says whether P holds
abbrev Says : Bool → Type 0 → Type 0
Says t P = (t ≡ true → P) × (t ≡ false → ¬ P)

holds : {t : Bool} {P : Type 0} → Says t P → P → t ≡ true
holds {t = true} says h = refl
holds {t = false} says h = absurd (says.1 refl h)

fails : {t : Bool} {P : Type 0} → Says t P → ¬ P → t ≡ false
fails {t = true} says f = absurd (f (says.0 refl))
fails {t = false} says f = refl

by-test : {t : Bool} {P : Type 0} (Q : Verdict → Type 0) (x y : Verdict) → Says t P → (P → Q x) → (¬ P → Q y) → Q (cond t x y)
by-test {t = true} Q x y says h k = h (says.0 refl)
by-test {t = false} Q x y says h k = k (says.1 refl)

both : (a b : Bool) → a ≡ true → b ≡ true → a && b ≡ true
both a b e f = rw (e, f)

either-says : {a b : Bool} {P Q : Type 0} → Says a P → Says b Q → Says (a || b) (P ⊎ Q)
either-says {a = true} says also = (λ e. inl (says.0 refl), λ e. absurd (true≢false e))
either-says {a = false} says also = (λ e. inr (also.0 e), λ e. ⊎_elim (says.1 refl) (also.1 e))

module _ (s : State) (size : ℕ) (ecn : Bool) (u : ℕ) where
  -- ── what the test of each rule says ──

  rule-1 : Says (bytes_full s size) (Rule1 s size)
  rule-1 = omega (arith, ltb-true, ltb-false)

  rule-2 : Says (slots_full s) (Rule2 s)
  rule-2 = omega (arith, eqb-true, eqb-false)

  rule-3 : Says (in_allowance s.pie) (Rule3 s)
  rule-3 = omega (arith, ltb-true, ltb-false)

  abbrev light : Bool
  light = lightly_loaded s.pie s.settings.target.0

  tests-light : Rule4 s → light ≡ true
  tests-light h = rw (lt-ltb (2 * s.pie.old.0) s.settings.target.0 (search), lt-ltb (5 * s.pie.prob.0) whole (search))

  rule-4 : Says light (Rule4 s)
  rule-4 =
      let delay = ltb (2 * s.pie.old.0) s.settings.target.0 in
      let prob = ltb (5 * s.pie.prob.0) whole in (
        λ e. (ltb-true _ _ (and_left delay prob e), ltb-true _ _ (and_right delay prob e)),
        λ e h. false≢true (sym e ∙ tests-light h),
      )

  rule-5 : Says (is_small s.backlog.bytes.0) (Rule5 s)
  rule-5 = omega (arith, leb-true, leb-false)

  rules-3-to-5 : Says (spared s.pie s.settings.target.0 s.backlog.bytes.0) ((Rule3 s ⊎ Rule4 s) ⊎ Rule5 s)
  rules-3-to-5 = either-says (either-says rule-3 rule-4) rule-5

  low_sum : Says (sum_is_low (sum_of s.pie)) (LowSum s)
  low_sum = omega (arith, ltb-true, ltb-false)

  high_sum : Says (sum_is_high (sum_of s.pie)) (HighSum s)
  high_sum = omega (arith, leb-true, leb-false)

  u-early : Says (early s.pie.prob.0 u) (Drawn s u)
  u-early = omega (arith, ltb-true, ltb-false)

  tests-marks : Marks s ecn → marks s.pie.prob.0 ecn ≡ true
  tests-marks h = both ecn _ h.0 (lt-ltb s.pie.prob.0 tenth h.1)

  rule-6-marks : Says (marks s.pie.prob.0 ecn) (Marks s ecn)
  rule-6-marks =
      let low = ltb s.pie.prob.0 tenth in (
        λ e. (and_left ecn low e, ltb-true _ _ (and_right ecn low e)),
        λ e h. false≢true (sym e ∙ tests-marks h),
      )

  -- ── the first that holds decides ──

  abbrev Q : Verdict → Type 0
  Q = Grounds s size ecn u

  not-inactive : ¬ Inactive s → s.active ≡ true
  not-inactive f = go s.active refl
    where
      go : (b : Bool) → s.active ≡ b → s.active ≡ true
      go true e = e
      go false e = absurd (f e)

  spares : (Rule3 s ⊎ Rule4 s) ⊎ Rule5 s → Inactive s ⊎ Rule3 s ⊎ Rule4 s ⊎ Rule5 s ⊎ ¬ Rule6 s u
  spares = ⊎_elim (⊎_elim (λ h3. inr (inl h3)) (λ h4. inr (inr (inl h4)))) (λ h5. inr (inr (inr (inl h5))))

  none-spares : ¬ ((Rule3 s ⊎ Rule4 s) ⊎ Rule5 s) → ¬ Rule3 s × ¬ Rule4 s × ¬ Rule5 s
  none-spares f = (λ h3. f (inl (inl h3)), λ h4. f (inl (inr h4)), λ h5. f (inr h5))

  -- the verdict of an active queue past rules 1 and 2 has its grounds, and so has every verdict
  active-grounds : ¬ Rule1 s size → ¬ Rule2 s → ¬ Inactive s →
      Q (drop_decision s.pie s.settings.target.0 s.backlog.bytes.0 ecn u)
  unfolding drop_decision drawn
  active-grounds f1 f2 a =
      by-test Q Enqueued _ rules-3-to-5 (λ h. (f1, f2, spares h))
      (λ f. by-test Q Enqueued _ low_sum (λ low. (f1, f2, inr (inr (inr (inr (λ r6. r6.0 low))))))
      (λ due. by-test Q (early_verdict s.pie.prob.0 ecn) Enqueued (either-says high_sum u-early)
      (λ e.
      let n = none-spares f in
      by-test Q Marked DroppedEarly rule-6-marks
      (λ m. ((f1, f2, a, n.0, n.1, n.2, (due, e)), m))
      (λ m. ((f1, f2, a, n.0, n.1, n.2, (due, e)), m)))
      (λ f6. (f1, f2, inr (inr (inr (inr (λ r6. f6 r6.1))))))))

  grounds : Q (verdict_of s size ecn u)
  unfolding verdict_of
  grounds =
      by-test Q DroppedBytes _ rule-1 (λ h1. search)
      (λ f1. by-test Q DroppedSlots _ rule-2 (λ h2. search)
      (λ f2. at-cond Q s.active (λ e. active-grounds f1 f2 (λ i. true≢false (sym e ∙ i))) (λ i. (f1, f2, inl i))))

  -- past rules 1 to 5
  drawn-given : ¬ Rule1 s size → ¬ Rule2 s → ¬ Inactive s → ¬ Rule3 s → ¬ Rule4 s → ¬ Rule5 s →
      verdict_of s size ecn u ≡ drawn s.pie ecn u
  unfolding verdict_of drop_decision
  drawn-given f1 f2 a f3 f4 f5 = rw (fails rule-1 f1, fails rule-2 f2, not-inactive a, fails rules-3-to-5 (⊎_elim (⊎_elim f3 f4) f5))

  early-given : EarlyGrounds s size u → verdict_of s size ecn u ≡ early_verdict s.pie.prob.0 ecn
  unfolding drawn
  early-given (f1, f2, a, f3, f4, f5, (due, e)) =
      drawn-given f1 f2 a f3 f4 f5 ∙ rw (fails low_sum due, holds (either-says high_sum u-early) e)

  spared-given : Rule3 s ⊎ Rule4 s ⊎ Rule5 s ⊎ ¬ Rule6 s u →
      drop_decision s.pie s.settings.target.0 s.backlog.bytes.0 ecn u ≡ Enqueued
  unfolding drop_decision drawn
  spared-given g =
      let E : Verdict → Type 0 = λ v. v ≡ Enqueued in
      by-test E Enqueued _ rules-3-to-5 (λ h. refl)
      (λ f. by-test E Enqueued _ low_sum (λ low. refl)
      (λ due. by-test E (early_verdict s.pie.prob.0 ecn) Enqueued (either-says high_sum u-early)
      (λ e.
      let n = none-spares f in
      absurd (⊎_elim n.0 (⊎_elim n.1 (⊎_elim n.2 (λ f6. f6 (due, e)))) g))
      (λ f6. refl)))

  enqueued-given : Inactive s ⊎ Rule3 s ⊎ Rule4 s ⊎ Rule5 s ⊎ ¬ Rule6 s u →
      cond s.active (drop_decision s.pie s.settings.target.0 s.backlog.bytes.0 ecn u) Enqueued ≡ Enqueued
  enqueued-given g = ⊎_elim (λ i. rw i) (λ h. either (λ v. v ≡ Enqueued) s.active _ Enqueued (spared-given h) refl) g

  -- where a verdict has its grounds, it is given
  given : (w : Verdict) → Q w → verdict_of s size ecn u ≡ w
  unfolding verdict_of
  given DroppedBytes g = rw (holds rule-1 (search))
  given DroppedSlots g = rw (fails rule-1 (search), holds rule-2 (search))
  given Enqueued (f1, f2, g) = rw (fails rule-1 f1, fails rule-2 f2) (enqueued-given g)
  given Marked (g, m) = early-given g ∙ rw (holds rule-6-marks m)
  given DroppedEarly (g, m) = early-given g ∙ rw (fails rule-6-marks m)

pub which-verdict : WhichVerdict
which-verdict s handles sizes clock handle size ecn u v e w =
    let d = sym (verdict-begun s size ecn u) ∙ decided-verdict s handles sizes clock handle size ecn u v e in
    (λ same. subst (Grounds s size ecn u) (d ∙ same) (grounds s size ecn u), λ g. sym d ∙ given s size ecn u w g)
