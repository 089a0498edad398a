-- What the numbers of a record that is formed are, as facts that `omega` reads.
use mathlib.Core.Path.{◌≡◌}
use mathlib.Core.Bool.{true, ◌&&◌, ◌||◌}
use mathlib.Core.List.{List, ◌++◌}
use Prim.Native.Nat.{ℕ, ◌*◌, ◌≤◌, ◌<◌}
use lib.Dec.{eqb, leb}
use lib.ListN.{get_or}
use borrow.Author.Tests.{le-leb, leb-true, lt-ltb, ltb-true}
use Rattle.units.specs.Kinds.{fastest, none, slowest}
use Rattle.laws.proofs.Tests.{and_left, and_right}
use Rattle.pie.specs.Constants.{largest, latest, longest, most_verdicts}
use Rattle.pie.specs.Verdicts.{total}
use Rattle.laws.proofs.TestLists.{all-at}
use Rattle.docsis_pie.specs.Constants.{active, full_allowance, high, most_prob, quiescent, reset_timeout}
use Rattle.modem_flow.specs.State.{formed, settings_conditions, state_conditions, well_formed}
use Rattle.modem_flow.specs.declared.State.{State}

pub record Facts (s : State) : Type 0 where
  pub target-low : 1000 ≤ s.settings.target.0
  pub target-high : s.settings.target.0 ≤ 100000
  pub buffer-low : 1 ≤ s.settings.buffer.0
  pub buffer-high : s.settings.buffer.0 ≤ 16777216
  pub slots-low : 1 ≤ s.settings.slots
  pub slots-high : s.settings.slots ≤ 65536
  pub peak-low : slowest ≤ s.settings.peak.0
  pub peak-high : s.settings.peak.0 ≤ fastest
  pub sustained-low : slowest ≤ s.settings.sustained.0
  pub sustained-high : s.settings.sustained.0 ≤ fastest
  pub last-high : s.last.0 ≤ s.clock.0
  pub clock-high : s.clock.0 ≤ latest
  pub prob-high : s.pie.prob.0 ≤ most_prob
  pub accumulated-high : s.pie.accumulated.0 ≤ high
  pub old-high : s.pie.old.0 ≤ longest
  pub allowance-high : s.pie.allowance.0 ≤ full_allowance
  pub reset-high : s.pie.phase.reset.0 ≤ reset_timeout
  pub activity-high : s.pie.phase.activity.0 ≤ active
  pub first-high : s.first < s.settings.slots
  pub count-high : s.backlog.count ≤ s.settings.slots
  pub bytes_low : s.backlog.count ≤ s.backlog.bytes.0
  pub bytes_high : s.backlog.bytes.0 ≤ largest * s.backlog.count
  pub bytes_fit : s.backlog.bytes.0 ≤ s.settings.buffer.0
  -- an allowance runs in an active flow alone
  pub allowed : eqb s.pie.allowance.0 0 || eqb s.pie.phase.activity.0 active ≡ true
  -- a reset time runs in a quiescent flow with probability 0 alone
  pub resetting : eqb s.pie.phase.reset.0 0 || (eqb s.pie.phase.activity.0 quiescent && eqb s.pie.prob.0 none) ≡ true

pub facts : (s : State) → formed s ≡ true → Facts s
unfolding formed
facts s w =
    let tests = settings_conditions s.settings ++ state_conditions s in
    let at : (i : ℕ) → get_or tests i true ≡ true = all-at tests w in
    record {
      target-low = leb-true _ _ (at 0);
      target-high = leb-true _ _ (at 1);
      buffer-low = leb-true _ _ (at 2);
      buffer-high = leb-true _ _ (at 3);
      slots-low = leb-true _ _ (at 4);
      slots-high = leb-true _ _ (at 5);
      peak-low = leb-true _ _ (at 6);
      peak-high = leb-true _ _ (at 7);
      sustained-low = leb-true _ _ (at 8);
      sustained-high = leb-true _ _ (at 9);
      last-high = leb-true _ _ (at 10);
      clock-high = leb-true _ _ (at 11);
      prob-high = leb-true _ _ (at 12);
      accumulated-high = leb-true _ _ (at 13);
      old-high = leb-true _ _ (at 14);
      allowance-high = leb-true _ _ (at 15);
      reset-high = leb-true _ _ (at 16);
      activity-high = leb-true _ _ (at 17);
      first-high = ltb-true _ _ (at 18);
      count-high = leb-true _ _ (at 19);
      bytes_low = leb-true _ _ (at 20);
      bytes_high = leb-true _ _ (at 21);
      bytes_fit = leb-true _ _ (at 22);
      allowed = at 23;
      resetting = at 24;
    }

pub is-formed : (s : State) → Facts s → formed s ≡ true
unfolding formed
is-formed s f =
    simp (
      le-leb _ _ f.target-low,
      le-leb _ _ f.target-high,
      le-leb _ _ f.buffer-low,
      le-leb _ _ f.buffer-high,
      le-leb _ _ f.slots-low,
      le-leb _ _ f.slots-high,
      le-leb _ _ f.peak-low,
      le-leb _ _ f.peak-high,
      le-leb _ _ f.sustained-low,
      le-leb _ _ f.sustained-high,
      le-leb _ _ f.last-high,
      le-leb _ _ f.clock-high,
      le-leb _ _ f.prob-high,
      le-leb _ _ f.accumulated-high,
      le-leb _ _ f.old-high,
      le-leb _ _ f.allowance-high,
      le-leb _ _ f.reset-high,
      le-leb _ _ f.activity-high,
      lt-ltb _ _ f.first-high,
      le-leb _ _ f.count-high,
      le-leb _ _ f.bytes_low,
      le-leb _ _ f.bytes_high,
      le-leb _ _ f.bytes_fit,
      f.allowed,
      f.resetting,
    )

-- a well-formed record and row: the record's part, and the row's
pub record-formed : (s : State) (row : List ℕ) → well_formed s row ≡ true → formed s ≡ true
unfolding well_formed
record-formed s row w = and_left (formed s) (leb (total row) most_verdicts) w

pub row_fits : (s : State) (row : List ℕ) → well_formed s row ≡ true → total row ≤ most_verdicts
unfolding well_formed
row_fits s row w = leb-true _ _ (and_right (formed s) (leb (total row) most_verdicts) w)

pub well-formed : (s : State) (row : List ℕ) → formed s ≡ true → total row ≤ most_verdicts → well_formed s row ≡ true
unfolding well_formed
well-formed s row e h = rw (e, le-leb (total row) most_verdicts h)
