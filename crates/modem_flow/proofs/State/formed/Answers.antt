-- `State::formed`: where a part fails a condition fails, and where all parts pass every condition passes.
use borrow.Author.Tests.{le-leb, leb-true, lt-ltb, not-true}
use mathlib.Core.Path.{◌≡◌, ap, sym, ◌∙◌}
use mathlib.Core.Bool.{Bool, true, false, not, ◌&&◌, ◌||◌, false≢true}
use mathlib.Core.List.{List, [], ◌∷◌}
use Prim.Native.Nat.{◌*◌, ◌≤◌}
use native.Mathlib.Omega.{arith}
use lib.Dec.{eqb, leb, ltb}
use Rattle.units.specs.Kinds.{none}
use Rattle.pie.specs.Constants.{largest, latest, longest}
use Rattle.laws.specs.Tests.{all}
use Rattle.laws.proofs.TestLists.{all-at, false_of}
use Rattle.docsis_pie.specs.Constants.{active, full_allowance, high, most_prob, quiescent, reset_timeout}
use Rattle.modem_flow.specs.State.{formed, settings_conditions}
use Rattle.modem_flow.specs.declared.State.{State}
use Rattle.modem_flow.proofs.Facts.{Facts, facts}
use Rattle.modem_flow.proofs.State.formed.Goals as goal
use Rattle.modem_flow.proofs.State.formed.Lts
use Rattle.modem_flow.proofs.State.formed.Reads
use Rattle.modem_flow.proofs.State.formed.Tie

abbrev After-in_range : Type 0
After-in_range = Lts.After-in_range Tie.the-claims Reads.Pre Reads.Post

abbrev Start : Type 0
Start = Lts.Start Tie.the-claims Reads.Pre Reads.Post

-- the tests, with what `in_range` answered
abbrev tests : State → (in_range : Bool) → List Bool
tests s in_range =
    leb s.last.0 s.clock.0
    ∷ leb s.clock.0 latest
    ∷ leb s.pie.prob.0 most_prob
    ∷ leb s.pie.accumulated.0 high
    ∷ leb s.pie.old.0 longest
    ∷ leb s.pie.allowance.0 full_allowance
    ∷ leb s.pie.phase.reset.0 reset_timeout
    ∷ leb s.pie.phase.activity.0 active
    ∷ ltb s.first s.settings.slots
    ∷ leb s.backlog.count s.settings.slots
    ∷ leb s.backlog.count s.backlog.bytes.0
    ∷ leb s.backlog.bytes.0 s.settings.buffer.0
    ∷ in_range
    ∷ []

-- what `phase_fits` tests
abbrev phased : State → Bool
phased s =
    (eqb s.pie.allowance.0 0 || eqb s.pie.phase.activity.0 active)
    && (eqb s.pie.phase.reset.0 0 || (eqb s.pie.phase.activity.0 quiescent && eqb s.pie.prob.0 none))

module _ (s : State) where
  settings-pass : Facts s → all (settings_conditions s.settings) ≡ true
  settings-pass f =
      simp (
        le-leb _ _ f.target-low,
        le-leb _ _ f.target-high,
        le-leb _ _ f.buffer-low,
        le-leb _ _ f.buffer-high,
        le-leb _ _ f.slots-low,
        le-leb _ _ f.slots-high,
        le-leb _ _ f.peak-low,
        le-leb _ _ f.peak-high,
        le-leb _ _ f.sustained-low,
        le-leb _ _ f.sustained-high,
      )

  tests-pass : Facts s → all (tests s (all (settings_conditions s.settings))) ≡ true
  tests-pass f =
      rw (
        settings-pass f,
        le-leb s.last.0 s.clock.0 f.last-high,
        le-leb s.clock.0 latest f.clock-high,
        le-leb s.pie.prob.0 most_prob f.prob-high,
        le-leb s.pie.accumulated.0 high f.accumulated-high,
        le-leb s.pie.old.0 longest f.old-high,
        le-leb s.pie.allowance.0 full_allowance f.allowance-high,
        le-leb s.pie.phase.reset.0 reset_timeout f.reset-high,
        le-leb s.pie.phase.activity.0 active f.activity-high,
        lt-ltb s.first s.settings.slots f.first-high,
        le-leb s.backlog.count s.settings.slots f.count-high,
        le-leb s.backlog.count s.backlog.bytes.0 f.bytes_low,
        le-leb s.backlog.bytes.0 s.settings.buffer.0 f.bytes_fit,
      )

-- a part that passes in each formed record: where it fails, the record is not formed
part : (s : State) (b p : Bool) → (Facts s → p ≡ true) → b ≡ p → not b ≡ true → false ≡ formed s
part s b p h e f = false_of (formed s) (λ w. false≢true (sym (not-true b f) ∙ e ∙ h (facts s w)))

-- where one of the tests fails
tests-fail : (s : State) (r : Bool) → r ≡ all (settings_conditions s.settings) → not (all (tests s r)) ≡ true → false ≡ formed s
tests-fail s r e = part s _ _ (tests-pass s) (ap (λ q. all (tests s q)) e)

-- where all of them pass, the phase decides
tests-hold : (s : State) (r m : Bool) → r ≡ all (settings_conditions s.settings) → all (tests s r) ≡ true →
    s.backlog.bytes.0 ≤ largest * s.backlog.count → m ≡ phased s → m ≡ formed s
unfolding formed
tests-hold s r m e passed h k =
    let b = all-at (tests s r) passed in
    simp (
      ← e,
      b 12,
      b 0,
      b 1,
      b 2,
      b 3,
      b 4,
      b 5,
      b 6,
      b 7,
      b 8,
      b 9,
      b 10,
      b 11,
      le-leb s.backlog.bytes.0 (largest * s.backlog.count) h,
    ) k

abbrev at-start : After-in_range → Start
at-start r = r.before.before.before.before.before.before.before.before.before.before.before.before.before.before.before.before.before.before.before.before

pub overflow_mul-backlog : goal.overflow_mul-backlog
overflow_mul-backlog c =
    let e1 = c.before in
    let r = e1.before in
    let s = (at-start r).args.self in
    let b = all-at (tests s r.in_range.result) e1.if-not-fits.false in
    omega (
      arith,
      leb-true s.backlog.count s.settings.slots (b 9),
      leb-true s.settings.slots 65536 (all-at (settings_conditions s.settings) (sym r.in_range.ensures ∙ b 12) 5),
    )

pub returns-then-backlog : goal.returns-then-backlog
returns-then-backlog c = false_of _ (λ w. let f = facts _ w in omega arith)

pub returns : goal.returns
returns c =
    let e2 = c.before in
    let e1 = e2.before.before.before in
    let r = e1.before in
    tests-hold
    (at-start r).args.self
    r.in_range.result
    c.phase_fits.result
    r.in_range.ensures
    e1.if-not-fits.false
    e2.if-backlog.false
    c.phase_fits.ensures

pub returns-then-not-fits : goal.returns-then-not-fits
returns-then-not-fits c =
    tests-fail c.args.self c.in_range.result c.in_range.ensures (ap not c.if-not-fits.true)
