-- Verdict and words, by the tests of the rules.
use mathlib.Core.Path.{◌≡◌, refl, ap, sym, ◌∙◌}
use mathlib.Core.Bool.{Bool, true, false, cond, ◌||◌}
use mathlib.Core.List.{List}
use Prim.Native.Nat.{ℕ, ◌+◌, ◌≤◌, min}
use native.Mathlib.Omega.{arith}
use lib.Dec.{eqb, leb, ltb}
use lib.ListN.{get_or, length, set}
use borrow.Author.Tests.{eq-eqb, eqb-true, le-ltb, leb-false, leb-true, lt-ltb, ltb-false, ltb-true, ne_eqb}
use Rattle.laws.proofs.Choice.{either}
use Rattle.laws.proofs.Tests.{or-neither}
use Rattle.units.specs.Kinds.{none}
use Rattle.pie.specs.Constants.{longest}
use Rattle.pie.specs.declared.Verdict.{Verdict}
use Rattle.pie.specs.declared.Verdict.TheVariants.{DroppedBytes, DroppedEarly, DroppedSlots, Enqueued}
use Rattle.docsis_pie.specs.Constants.{high, low, most_prob}
use Rattle.docsis_pie.specs.DropDecision.{after_drop, cleared, decided, drawn, drawn_with, scaled_of, stays_inactive, summed, with_accumulated}
use Rattle.docsis_pie.specs.DropDecision.{early, is_small, lightly_loaded, no_longer_inactive}
use Rattle.docsis_pie.specs.declared.Decided.{Decided}
use Rattle.docsis_pie.specs.declared.DocsisPie.{DocsisPie}
use Rattle.docsis_pie.proofs.NeverEarly.{low-enqueues, scaled-zero, no-longer-inactive-accumulated, zero-enqueues}
use Rattle.modem_flow.specs.Arrival.{decision_of}
use Rattle.modem_words.specs.Words.{pie_of, state_of}
use Rattle.modem_words.proofs.Changed.{Same, same-cleared, same-no-longer-inactive}
use Rattle.modem_steps.specs.Words.{pie_words}
use Rattle.modem_steps.proofs.Words.{pie-back, pie-buffer, pie-long, pie-same, pie-target, pie-twice, spent-words, summed-words}

-- ── rules 7 to 15 ──

-- rules 12 and 13, joined
either-drops : (a b c : Bool) → a || b ≡ c → cond a DroppedEarly (cond b DroppedEarly Enqueued) ≡ cond c DroppedEarly Enqueued
either-drops true b c e = rw (← e)
either-drops false b c e = rw (← e)

-- whether the sum is low, or high, is told before its limit
limit-low : (sum : ℕ) → ltb (min sum high) low ≡ ltb sum low
limit-low sum = go (ltb sum low) refl
  where
    go : (b : Bool) → ltb sum low ≡ b → ltb (min sum high) low ≡ b
    go true e = let h = ltb-true sum low e in lt-ltb (min sum high) low (omega arith)
    go false e = let h = ltb-false sum low e in le-ltb (min sum high) low (omega arith)

limit-high : (sum : ℕ) → eqb (min sum high) high ≡ leb high sum
limit-high sum = go (leb high sum) refl
  where
    go : (b : Bool) → leb high sum ≡ b → eqb (min sum high) high ≡ b
    go true e = let h = leb-true high sum e in eq-eqb (min sum high) high (omega arith)
    go false e = let h = leb-false high sum e in ne_eqb (min sum high) high (λ same. omega arith)

module _ (w : List ℕ) (long : length w ≡ 16) (bytes size u : ℕ) where
  abbrev part : ℕ
  part = scaled_of (get_or w 7 0) size

  abbrev sum : ℕ
  sum = get_or w 8 0 + part

  abbrev summed_here : DocsisPie
  summed_here = summed (pie_of w) part

  abbrev verdict_here : Verdict
  verdict_here = drawn summed_here (get_or w 0 0) bytes part u

  abbrev light : Bool
  light = lightly_loaded (pie_of w) (get_or w 0 0)

  -- a verdict's place, and the words after the rules
  abbrev Draws : (v : Verdict) (after : List ℕ) → Type 0
  Draws v after =
      let d = drawn_with summed_here (get_or w 0 0) bytes part u in (v ≡ d.verdict) × (after ≡ pie_words w d.pie)

  enqueues : verdict_here ≡ Enqueued → Draws Enqueued (set w 8 (min sum high))
  unfolding drawn_with
  enqueues e = rw e (refl, summed-words part w long)

  -- a sum that is not above its limit
  sums : min sum high ≡ sum → verdict_here ≡ Enqueued → Draws Enqueued (set w 8 sum)
  sums same e = let d = enqueues e in (d.0, ap (λ (n : ℕ). set w 8 n) (sym same) ∙ d.1)

  verdict-is : verdict_here
      ≡ cond light Enqueued
      (cond (is_small bytes) Enqueued
      (cond (ltb sum low) Enqueued
      (cond (leb high sum) DroppedEarly
      (cond (early part u) DroppedEarly
      Enqueued))))
  unfolding drawn
  verdict-is = rw (limit-low sum, limit-high sum) refl

  -- rule 9
  pub light-draws : light ≡ true → Draws Enqueued (set w 8 (min sum high))
  light-draws e = enqueues (rw e at verdict-is)

  -- rule 11
  pub low-draws : ltb sum low ≡ true → Draws Enqueued (set w 8 sum)
  low-draws e =
      let h = ltb-true sum low e in
      sums (omega arith) (low-enqueues summed_here (get_or w 0 0) bytes part u (limit-low sum ∙ e))

  module _ (loaded : light ≡ false) (more : ltb sum low ≡ false) where
    -- rule 10
    pub small-draws : is_small bytes ≡ true → Draws Enqueued (set w 8 (min sum high))
    small-draws e = enqueues (rw (loaded, e) at verdict-is)

    module _ (large : is_small bytes ≡ false) where
      drawn-last : (b : Bool) → leb high sum || early part u ≡ b → verdict_here ≡ cond b DroppedEarly Enqueued
      drawn-last b e = rw (loaded, large, more) at verdict-is ∙ either-drops (leb high sum) (early part u) b e

      -- rules 12, 13 and 15
      pub early-draws : leb high sum || early part u ≡ true → (after : List ℕ) → after ≡ pie_words w (after_drop (pie_of w)) → Draws DroppedEarly after
      unfolding drawn_with
      early-draws e after k = rw (drawn-last true e) (refl, k)

      -- rule 14
      pub passed-draws : leb high sum || early part u ≡ false → Draws Enqueued (set w 8 sum)
      passed-draws e =
          let h = leb-false high sum (or-neither (leb high sum) (early part u) e).0 in sums (omega arith) (drawn-last false e)

-- ── rules 1 to 15 ──

stays-cleared : (pie : DocsisPie) (buffer bytes : ℕ) → stays_inactive (cleared pie) buffer bytes ≡ stays_inactive pie buffer bytes
stays-cleared pie buffer bytes =
    either (λ q. stays_inactive q buffer bytes ≡ stays_inactive pie buffer bytes) (eqb pie.prob.0 none) (with_accumulated pie none) pie refl refl

cleared-low : (pie : DocsisPie) → pie.accumulated.0 ≤ high → (cleared pie).accumulated.0 ≤ high
cleared-low pie h = either (λ q. q.accumulated.0 ≤ high) (eqb pie.prob.0 none) (with_accumulated pie none) pie (omega arith) h

-- rule 4, in the words
module _ (w : List ℕ) (long : length w ≡ 16) where
  pub none-cleared : eqb (get_or w 7 0) none ≡ true → set w 8 0 ≡ pie_words w (cleared (pie_of w))
  none-cleared e = rw e (spent-words w long)

  pub some-cleared : eqb (get_or w 7 0) none ≡ false → w ≡ pie_words w (cleared (pie_of w))
  some-cleared e = rw e (pie-same w long)

module _ (w : List ℕ) (long : length w ≡ 16) (size u : ℕ) where
  abbrev pub Decides : (v : Verdict) (after : List ℕ) → Type 0
  Decides v after =
      let d = decision_of (state_of w) size u in (v ≡ d.verdict) × (after ≡ pie_words w d.pie)

  -- rule 1
  pub bytes-decide : ltb (get_or w 1 0) (get_or w 15 0 + size) ≡ true → Decides DroppedBytes (set w 8 0)
  unfolding state_of decision_of
  bytes-decide e = rw e (refl, spent-words w long)

  module _ (fit : ltb (get_or w 1 0) (get_or w 15 0 + size) ≡ false) where
    -- rule 2
    pub slots-decide : eqb (get_or w 14 0) (get_or w 2 0) ≡ true → Decides DroppedSlots (set w 8 0)
    unfolding state_of decision_of
    slots-decide e = rw (fit, e) (refl, spent-words w long)

    module _ (free : eqb (get_or w 14 0) (get_or w 2 0) ≡ false) where
      -- rule 3
      pub allowance-decides : ltb 0 (get_or w 10 0) ≡ true → Decides Enqueued w
      unfolding state_of decision_of decided
      allowance-decides e = rw (fit, free, e) (refl, pie-same w long)

      -- the words c after rule 4, and d after rules 5 and 6
      module _ (spent : ltb 0 (get_or w 10 0) ≡ false) (c d : List ℕ) (stays : Bool)
          (ec : c ≡ pie_words w (cleared (pie_of w)))
          (es : stays ≡ stays_inactive (pie_of c) (get_or c 1 0) (get_or w 15 0))
          (ed : d ≡ pie_words c (cond stays (pie_of c) (no_longer_inactive (pie_of c)))) where
        cleared-pie : pie_of c ≡ cleared (pie_of w)
        cleared-pie = rw ec (pie-back (cleared (pie_of w)) w long (same-cleared (pie_of w) (pie_of w) (refl, refl, refl)))

        stays-as : stays ≡ stays_inactive (pie_of w) (get_or w 1 0) (get_or w 15 0)
        stays-as =
            es
            ∙ ap (λ (q : DocsisPie). stays_inactive q (get_or c 1 0) (get_or w 15 0)) cleared-pie
            ∙ ap (λ (n : ℕ). stays_inactive (cleared (pie_of w)) n (get_or w 15 0)) (ap (λ (l : List ℕ). get_or l 1 0) ec ∙ pie-buffer (cleared (pie_of w)) w long)
            ∙ stays-cleared (pie_of w) (get_or w 1 0) (get_or w 15 0)

        -- rule 5
        pub stays-decide : stays ≡ true → Decides Enqueued d
        unfolding state_of decision_of decided
        stays-decide e =
            rw (fit, free, spent, sym stays-as ∙ e) (
              refl,
              ed
                  ∙ ap (λ (b : Bool). pie_words c (cond b (pie_of c) (no_longer_inactive (pie_of c)))) e
                  ∙ ap (λ (q : DocsisPie). pie_words c q) cleared-pie
                  ∙ ap (λ (l : List ℕ). pie_words l (cleared (pie_of w))) ec
                  ∙ pie-twice (cleared (pie_of w)) (cleared (pie_of w)) w long,
            )

        module _ (starts : stays ≡ false) where
          abbrev started : DocsisPie
          started = no_longer_inactive (cleared (pie_of w))

          same-started : Same (pie_of w) started
          same-started = same-no-longer-inactive (pie_of w) (cleared (pie_of w)) (same-cleared (pie_of w) (pie_of w) (refl, refl, refl))

          started-words : d ≡ pie_words w started
          started-words =
              ed
              ∙ ap (λ (b : Bool). pie_words c (cond b (pie_of c) (no_longer_inactive (pie_of c)))) starts
              ∙ ap (λ (q : DocsisPie). pie_words c (no_longer_inactive q)) cleared-pie
              ∙ ap (λ (l : List ℕ). pie_words l started) ec
              ∙ pie-twice (cleared (pie_of w)) started w long

          pub started-pie : pie_of d ≡ started
          started-pie = rw started-words (pie-back started w long same-started)

          abbrev ruled : (p : ℕ) → DocsisPie → (target : ℕ) → Decided
          ruled p pie target = let part = scaled_of p size in drawn_with (summed pie part) target (get_or w 15 0) part u

          ruled-same : ruled (get_or d 7 0) (pie_of d) (get_or d 0 0) ≡ ruled (get_or w 7 0) started (get_or w 0 0)
          ruled-same =
              ap (λ (q : DocsisPie). ruled q.prob.0 q (get_or d 0 0)) started-pie
              ∙ ap (λ (p : ℕ). ruled p started (get_or d 0 0)) same-started.0
              ∙ ap (λ (t : ℕ). ruled (get_or w 7 0) started t) (ap (λ (l : List ℕ). get_or l 0 0) started-words ∙ pie-target started w long)

          -- rules 7 to 15
          pub drawn-decides : (v : Verdict) (after : List ℕ) →
              (let r = ruled (get_or d 7 0) (pie_of d) (get_or d 0 0) in (v ≡ r.verdict) × (after ≡ pie_words d r.pie)) →
              Decides v after
          unfolding state_of decision_of decided
          drawn-decides v after (e, f) =
              let r = ruled (get_or d 7 0) (pie_of d) (get_or d 0 0) in
              rw (fit, free, spent, sym stays-as ∙ starts) (
                e ∙ ap (λ (x : Decided). x.verdict) ruled-same,
                f
                    ∙ ap (λ (l : List ℕ). pie_words l r.pie) started-words
                    ∙ pie-twice started r.pie w long
                    ∙ ap (λ (x : Decided). pie_words w x.pie) ruled-same,
              )

          -- where p is 0, so is the sum
          pub none-starts : eqb (get_or w 7 0) none ≡ true → Decides Enqueued d
          unfolding state_of decision_of decided drawn_with
          none-starts z =
              let p : get_or w 7 0 ≡ none = eqb-true (get_or w 7 0) none z in
              let scaled = scaled_of (get_or w 7 0) size in
              let zero : (cleared (pie_of w)).accumulated.0 ≡ 0 = rw z in
              let same : min (started.accumulated.0 + scaled) high ≡ started.accumulated.0 =
              omega (arith, no-longer-inactive-accumulated (cleared (pie_of w)), zero, scaled-zero (get_or w 7 0) size p) in
              rw (fit, free, spent, sym stays-as ∙ starts, zero-enqueues (pie_of w) (get_or w 0 0) (get_or w 15 0) size u p) (
                refl,
                started-words
                    ∙ ap (λ (n : ℕ). set (set (set w 8 n) 10 started.allowance.0) 12 started.phase.activity.0) (sym same),
              )

          -- what the rules are given
          pub started-long : length d ≡ 16
          started-long = rw started-words (pie-long started w long)

          pub started-fits : get_or w 7 0 ≤ most_prob → get_or w 8 0 ≤ high → get_or w 9 0 ≤ longest →
              (get_or d 7 0 ≤ most_prob) × (get_or d 8 0 ≤ high) × (get_or d 9 0 ≤ longest)
          started-fits p a o =
              let prob = ap (λ (q : DocsisPie). q.prob.0) started-pie ∙ same-started.0 in
              let old = ap (λ (q : DocsisPie). q.old.0) started-pie ∙ same-started.1 in
              let sum = ap (λ (q : DocsisPie). q.accumulated.0) started-pie ∙ no-longer-inactive-accumulated (cleared (pie_of w)) in
              (rw prob p, rw sum (cleared-low (pie_of w) a), rw old o)

        -- whether it starts or not
        pub none-decides : eqb (get_or w 7 0) none ≡ true → Decides Enqueued d
        none-decides z = go stays refl
          where
            go : (b : Bool) → stays ≡ b → Decides Enqueued d
            go true e = stays-decide e
            go false e = none-starts e z
