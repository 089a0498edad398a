-- `Common::fits`: where a part fails a condition fails, and where all parts pass every condition passes.
use borrow.Author.Tests.{le-leb, leb-true, lt-ltb}
use mathlib.Core.Path.{◌≡◌, ap, sym, ◌∙◌}
use mathlib.Core.Bool.{Bool, true, false, ◌&&◌, and-true, false≢true}
use mathlib.Core.List.{List, [], ◌∷◌, foldl}
use Prim.Native.Nat.{◌-◌, ◌≤◌}
use native.Mathlib.Omega.{arith}
use lib.Dec.{eqb, leb, ltb}
use Rattle.laws.specs.Tests.{all}
use Rattle.laws.proofs.TestLists.{at_from, false_of, first_of}
use Rattle.pie.specs.Constants.{latest, most_verdicts}
use Rattle.pie.specs.Verdicts.{total}
use Rattle.fq_state.specs.WellFormed.{common_conditions, settings_conditions}
use Rattle.fq_state.specs.declared.Common.{Common}
use Rattle.fq_state.proofs.Facts.{CommonFits, common-fits, settings-pass}
use Rattle.fq_state.proofs.Spare.{spare-is}
use Rattle.fq_state.proofs.Common.fits.Goals as goal

-- the tests that stand beside the settings'
abbrev others : Common → List Bool
others c =
    leb c.last.0 c.clock.0
    ∷ leb c.clock.0 latest
    ∷ ltb c.store.freed c.settings.slots
    ∷ leb c.store.used c.settings.slots
    ∷ leb c.backlog.count c.store.used
    ∷ []

module _ (c : Common) where
  others-pass : CommonFits c → foldl ◌&&◌ (all (settings_conditions c.settings)) (others c) ≡ true
  others-pass f =
      let held : c.backlog.count ≤ c.store.used = omega (arith, f.used-is) in
      rw (
        settings-pass c.settings f.settings,
        le-leb c.last.0 c.clock.0 f.last-high,
        le-leb c.clock.0 latest f.clock-high,
        lt-ltb c.store.freed c.settings.slots f.freed-high,
        le-leb c.store.used c.settings.slots f.used_high,
        le-leb c.backlog.count c.store.used held,
      )

  -- a part that passes in each record that fits: where it fails, the record does not fit
  part : (b p : Bool) → (CommonFits c → p ≡ true) → b ≡ p → b ≡ false → false ≡ all (common_conditions c)
  part b p h e f = false_of (all (common_conditions c)) (λ w. false≢true (sym f ∙ e ∙ h (common-fits c w)))

  -- with what `in_range` answered
  one-fails : (r : Bool) → r ≡ all (settings_conditions c.settings) → foldl ◌&&◌ r (others c) ≡ false →
      false ≡ all (common_conditions c)
  one-fails r e f = part (foldl ◌&&◌ r (others c)) _ others-pass (ap (λ q. foldl ◌&&◌ q (others c)) e) f

  held_of : (r : Bool) → foldl ◌&&◌ r (others c) ≡ true → c.backlog.count ≤ c.store.used
  held_of r f = leb-true _ _ (at_from r (others c) f 4)

  -- where the others pass, the spare slots decide
  spare-decides : (r : Bool) → r ≡ all (settings_conditions c.settings) → foldl ◌&&◌ r (others c) ≡ true →
      leb (total c.verdicts) most_verdicts ≡ true → eqb c.store.spare (c.store.used - c.backlog.count) ≡ all (common_conditions c)
  spare-decides r e f counted =
      let at = at_from r (others c) f in
      simp (
        ← e,
        first_of r (others c) f,
        at 0,
        at 1,
        at 2,
        at 3,
        counted,
        and-true,
        spare-is c.backlog.count c.store.spare c.store.used (held_of r f),
      )

pub returns-then-not-counts_fit : goal.returns-then-not-counts_fit
returns-then-not-counts_fit c =
    part c.args.self _ _ (λ f. le-leb _ most_verdicts f.total-high) c.counts_fit.ensures c.if-not-counts_fit.true

pub returns-then-not-fine : goal.returns-then-not-fine
returns-then-not-fine c = one-fails c.args.self c.in_range.result c.in_range.ensures c.if-not-fine.true

pub overflow_sub-result : goal.overflow_sub-result
overflow_sub-result c = held_of c.args.self c.in_range.result c.if-not-fine.false

pub returns : goal.returns
returns c =
    spare-decides c.args.self c.in_range.result c.in_range.ensures c.if-not-fine.false
    (sym c.counts_fit.ensures ∙ c.if-not-counts_fit.false)
