-- `State::formed`: where a part fails a condition fails, and where all parts pass every condition passes.
use borrow.Author.Tests.{le-leb, le-ltb, leb-false, leb-true, lt-leb, lt-ltb, ltb-false, not-false, not-true}
use mathlib.Core.Path.{◌≡◌, ap, sym, ◌∙◌}
use mathlib.Core.Bool.{Bool, true, false, not, ◌&&◌, ◌||◌, false≢true}
use mathlib.Core.List.{List, [], ◌∷◌, foldl}
use Prim.Native.Nat.{◌*◌, ◌≤◌}
use native.Mathlib.Omega.{arith}
use lib.Dec.{eqb, leb, ltb}
use Rattle.units.specs.Kinds.{whole}
use Rattle.pie.specs.Constants.{full_allowance, largest, latest, longest, most_accumulated, most_verdicts, threshold}
use Rattle.pie.specs.Verdicts.{total}
use Rattle.laws.specs.Tests.{all}
use Rattle.laws.proofs.TestLists.{all-at, false_of, first-not, none_from}
use Rattle.ring.specs.Activity.{is_calm}
use Rattle.ring.specs.State.{settings_conditions, well_formed}
use Rattle.ring.specs.declared.State.{State}
use Rattle.ring.proofs.Facts.{Facts, facts}
use Rattle.ring.proofs.State.formed.Goals as goal

-- the tests after the first, with what `in_range` answered: each is true of a state that is wrong
abbrev wrongs : State → (in-range : Bool) → List Bool
wrongs s in-range =
    ltb whole s.pie.prob.0
    ∷ ltb longest s.pie.old.0
    ∷ leb most_accumulated s.pie.accumulated.0
    ∷ ltb longest s.pie.rate.average.0
    ∷ leb s.settings.slots s.first
    ∷ ltb s.settings.slots s.backlog.count
    ∷ ltb s.backlog.bytes.0 s.backlog.count
    ∷ ltb s.settings.buffer.0 s.backlog.bytes.0
    ∷ ltb s.clock.0 s.last.0
    ∷ ltb full_allowance s.pie.allowance.0
    ∷ not in-range
    ∷ []

abbrev wrong : State → (in-range : Bool) → Bool
wrong s in-range = foldl ◌||◌ (ltb latest s.clock.0) (wrongs s in-range)

-- what `measurement_fits` tests
abbrev measured : State → Bool
measured s =
    let rate = s.pie.rate in
    leb rate.start.0 s.clock.0 && ltb rate.counted.0 threshold
    && (rate.measuring || eqb rate.start.0 0) && (rate.measuring || eqb rate.counted.0 0)
    && not (rate.measuring && eqb s.backlog.count 0)

module _ (s : State) where
  settings-pass : Facts s → all (settings_conditions s.settings) ≡ true
  settings-pass f =
      simp (
        le-leb _ _ f.target-low,
        le-leb _ _ f.target-high,
        le-leb _ _ f.buffer-low,
        le-leb _ _ f.buffer-high,
        le-leb _ _ f.slots-low,
        le-leb _ _ f.slots-high,
        le-leb _ _ f.profile-high,
      )

  none-wrong : Facts s → wrong s (all (settings_conditions s.settings)) ≡ false
  none-wrong f =
      rw (
        settings-pass f,
        le-ltb s.clock.0 s.last.0 f.last-high,
        le-ltb latest s.clock.0 f.clock-high,
        le-ltb whole s.pie.prob.0 f.prob-high,
        le-ltb longest s.pie.old.0 f.old-high,
        le-ltb full_allowance s.pie.allowance.0 f.allowance-high,
        lt-leb most_accumulated s.pie.accumulated.0 f.accumulated-high,
        le-ltb longest s.pie.rate.average.0 f.average-high,
        lt-leb s.settings.slots s.first f.first-high,
        le-ltb s.settings.slots s.backlog.count f.count-high,
        le-ltb s.backlog.bytes.0 s.backlog.count f.bytes_low,
        le-ltb s.settings.buffer.0 s.backlog.bytes.0 f.bytes_fit,
      )

measured-fits : (s : State) → Facts s → measured s ≡ true
measured-fits s f =
    simp (le-leb _ _ f.start-high, lt-ltb _ _ f.counted-high, f.idle-start, f.idle-counted, f.busy)

-- a part that passes in each well-formed state: where it fails, the state is not well formed
part : (s : State) (b p : Bool) → (Facts s → p ≡ true) → b ≡ p → not b ≡ true → false ≡ well_formed s
part s b p h e f = false_of (well_formed s) (λ w. false≢true (sym (not-true b f) ∙ e ∙ h (facts s w)))

-- where one of the tests is true
one-wrong : (s : State) (r : Bool) → r ≡ all (settings_conditions s.settings) → wrong s r ≡ true → false ≡ well_formed s
one-wrong s r e f = false_of (well_formed s) (λ w. false≢true (sym (none-wrong s (facts s w)) ∙ ap (wrong s) (sym e) ∙ f))

-- where none is and the measurement fits, activity decides
none-decides : (s : State) (r acts : Bool) → r ≡ all (settings_conditions s.settings) → wrong s r ≡ false →
    s.backlog.bytes.0 ≤ largest * s.backlog.count → total s.verdicts ≤ most_verdicts → measured s ≡ true →
    acts ≡ (s.active || (is_calm s.settings && eqb s.pie.prob.0 0)) → acts ≡ well_formed s
unfolding well_formed
none-decides s r acts e none h counted m k =
    let b = none_from (ltb latest s.clock.0) (wrongs s r) none in
    simp (
      ← e,
      not-false r (b 10),
      le-leb s.clock.0 latest (ltb-false _ _ (first-not (ltb latest s.clock.0) (wrongs s r) none)),
      le-leb s.pie.prob.0 whole (ltb-false _ _ (b 0)),
      le-leb s.pie.old.0 longest (ltb-false _ _ (b 1)),
      lt-ltb s.pie.accumulated.0 most_accumulated (leb-false _ _ (b 2)),
      le-leb s.pie.rate.average.0 longest (ltb-false _ _ (b 3)),
      lt-ltb s.first s.settings.slots (leb-false _ _ (b 4)),
      le-leb s.backlog.count s.settings.slots (ltb-false _ _ (b 5)),
      le-leb s.backlog.count s.backlog.bytes.0 (ltb-false _ _ (b 6)),
      le-leb s.backlog.bytes.0 s.settings.buffer.0 (ltb-false _ _ (b 7)),
      le-leb s.last.0 s.clock.0 (ltb-false _ _ (b 8)),
      le-leb s.pie.allowance.0 full_allowance (ltb-false _ _ (b 9)),
      le-leb s.backlog.bytes.0 (largest * s.backlog.count) h,
      le-leb (total s.verdicts) most_verdicts counted,
      m,
    ) k

fitted : (r m : Bool) → r ≡ m → not r ≡ false → m ≡ true
fitted r m e f = sym e ∙ not-false r f

acts : (active calm zero : Bool) → active ≡ true → true ≡ (active || (calm && zero))
acts active calm zero e = rw e

rests : (active calm zero k : Bool) → active ≡ false → k ≡ calm → (k && zero) ≡ (active || (calm && zero))
rests active calm zero k e f = rw (e, f)

pub returns-then-wrong : goal.returns-then-wrong
returns-then-wrong c = one-wrong c.args.self c.in_range.result c.in_range.ensures c.if-wrong.true

pub overflow_mul-backlog : goal.overflow_mul-backlog
overflow_mul-backlog c =
    let s = c.args.self in
    let q = c.in_range.result in
    let b = none_from (ltb latest s.clock.0) (wrongs s q) c.if-wrong.false in
    let settings = sym c.in_range.ensures ∙ not-false q (b 10) in
    omega (
      arith,
      ltb-false s.settings.slots s.backlog.count (b 5),
      leb-true s.settings.slots 65536 (all-at (settings_conditions s.settings) settings 5),
    )

pub returns-then-backlog : goal.returns-then-backlog
returns-then-backlog c = false_of _ (λ w. let f = facts _ w in omega arith)

pub returns-then-not-fits : goal.returns-then-not-fits
returns-then-not-fits c = part c.args.self c.measurement_fits-fits.result (measured c.args.self) (measured-fits c.args.self) c.measurement_fits-fits.ensures (ap not c.if-not-fits.true)

pub returns-then-active : goal.returns-then-active
returns-then-active c =
    let s = c.args.self in
    none-decides s c.in_range.result true c.in_range.ensures c.if-wrong.false c.if-backlog.false c.requires
    (fitted c.measurement_fits-fits.result (measured s) c.measurement_fits-fits.ensures (ap not c.if-not-fits.false))
    (acts s.active (is_calm s.settings) (eqb s.pie.prob.0 0) c.if-active.true)

pub returns : goal.returns
returns c =
    let s = c.args.self in
    none-decides s c.in_range.result _ c.in_range.ensures c.if-wrong.false c.if-backlog.false c.requires
    (fitted c.measurement_fits-fits.result (measured s) c.measurement_fits-fits.ensures (ap not c.if-not-fits.false))
    (rests _ _ _ _ c.if-active.false c.is_calm.ensures)
