-- What the numbers of well-formed records are, as facts that `omega` reads.
use mathlib.Core.Path.{◌≡◌}
use mathlib.Core.Bool.{true, not, ◌&&◌, ◌||◌}
use mathlib.Core.List.{List}
use Prim.Native.Nat.{ℕ, ◌+◌, ◌*◌, ◌^◌, ◌≤◌, ◌<◌}
use lib.Dec.{eqb}
use lib.ListN.{get_or}
use borrow.Author.Tests.{eq-eqb, eqb-true, le-leb, leb-true, lt-ltb, ltb-true}
use Rattle.laws.specs.Tests.{all}
use Rattle.laws.proofs.TestLists.{all-at}
use Rattle.laws.proofs.Tests.{and_left, and_right}
use Rattle.units.specs.Kinds.{whole}
use Rattle.pie.specs.Constants.{full_allowance, largest, latest, longest, most_accumulated, most_verdicts, threshold}
use Rattle.pie.specs.Verdicts.{total}
use Rattle.schedule.specs.WellFormed.{well_listed}
use Rattle.pie_words.specs.Flags.{is_set}
use Rattle.fq_state.specs.State.{State, counts_of, each_bytes}
use Rattle.fq_state.specs.WellFormed.{common_conditions, flow_conditions, flows_fit, settings_conditions, totals_conditions, well_formed}
use Rattle.fq_state.specs.declared.Common.{Common}
use Rattle.fq_state.specs.declared.Flow.{Flow}
use Rattle.fq_state.specs.declared.Settings.{Settings}

-- ── what all flows have in common ──

pub record SettingsFit (s : Settings) : Type 0 where
  pub target-low : 1000 ≤ s.target.0
  pub target-high : s.target.0 ≤ 100000
  pub buffer-low : 1 ≤ s.buffer.0
  pub buffer-high : s.buffer.0 ≤ 16777216
  pub slots-low : 1 ≤ s.slots
  pub slots-high : s.slots ≤ 65536
  pub salt-high : s.salt < 2 ^ 32

pub settings-fit : (s : Settings) → all (settings_conditions s) ≡ true → SettingsFit s
settings-fit s w =
    let at : (i : ℕ) → get_or (settings_conditions s) i true ≡ true = all-at (settings_conditions s) w in
    record {
      target-low = leb-true _ _ (at 0);
      target-high = leb-true _ _ (at 1);
      buffer-low = leb-true _ _ (at 2);
      buffer-high = leb-true _ _ (at 3);
      slots-low = leb-true _ _ (at 4);
      slots-high = leb-true _ _ (at 5);
      salt-high = ltb-true _ _ (at 6);
    }

pub settings-pass : (s : Settings) → SettingsFit s → all (settings_conditions s) ≡ true
settings-pass s f =
    simp (
      le-leb _ _ f.target-low,
      le-leb _ _ f.target-high,
      le-leb _ _ f.buffer-low,
      le-leb _ _ f.buffer-high,
      le-leb _ _ f.slots-low,
      le-leb _ _ f.slots-high,
      lt-ltb _ _ f.salt-high,
    )

pub record CommonFits (c : Common) : Type 0 where
  pub settings : SettingsFit c.settings
  pub last-high : c.last.0 ≤ c.clock.0
  pub clock-high : c.clock.0 ≤ latest
  pub freed-high : c.store.freed < c.settings.slots
  pub used_high : c.store.used ≤ c.settings.slots
  pub used-is : c.backlog.count + c.store.spare ≡ c.store.used
  pub total-high : total c.verdicts ≤ most_verdicts

pub common-fits : (c : Common) → all (common_conditions c) ≡ true → CommonFits c
common-fits c w =
    let at : (i : ℕ) → get_or (common_conditions c) i true ≡ true = all-at (common_conditions c) w in
    record {
      settings =
          record {
            target-low = leb-true _ _ (at 0);
            target-high = leb-true _ _ (at 1);
            buffer-low = leb-true _ _ (at 2);
            buffer-high = leb-true _ _ (at 3);
            slots-low = leb-true _ _ (at 4);
            slots-high = leb-true _ _ (at 5);
            salt-high = ltb-true _ _ (at 6);
          };
      last-high = leb-true _ _ (at 7);
      clock-high = leb-true _ _ (at 8);
      freed-high = ltb-true _ _ (at 9);
      used_high = leb-true _ _ (at 10);
      used-is = eqb-true _ _ (at 11);
      total-high = leb-true _ _ (at 12);
    }

pub common-passes : (c : Common) → CommonFits c → all (common_conditions c) ≡ true
common-passes c f =
    simp (
      le-leb _ _ f.settings.target-low,
      le-leb _ _ f.settings.target-high,
      le-leb _ _ f.settings.buffer-low,
      le-leb _ _ f.settings.buffer-high,
      le-leb _ _ f.settings.slots-low,
      le-leb _ _ f.settings.slots-high,
      lt-ltb _ _ f.settings.salt-high,
      le-leb _ _ f.last-high,
      le-leb _ _ f.clock-high,
      lt-ltb _ _ f.freed-high,
      le-leb _ _ f.used_high,
      eq-eqb _ _ f.used-is,
      le-leb _ _ f.total-high,
    )

-- ── a flow ──

pub record FlowFits (c : Common) (f : Flow) : Type 0 where
  pub prob-high : f.prob ≤ whole
  pub old-high : f.old ≤ longest
  pub allowance-high : f.allowance ≤ full_allowance
  pub accumulated-high : f.accumulated < most_accumulated
  pub average-high : f.average ≤ longest
  pub head-high : f.head < c.settings.slots
  pub tail-high : f.tail < c.settings.slots
  pub count-high : f.count ≤ c.settings.slots
  pub bytes_low : f.count ≤ f.bytes
  pub bytes_high : f.bytes ≤ largest * f.count
  pub bytes_fit : f.bytes ≤ c.settings.buffer.0
  pub start-high : f.start ≤ c.clock.0
  pub counted-high : f.counted < threshold
  -- a measurement that does not run has no start and nothing counted
  pub idle-start : (is_set f.measuring || eqb f.start 0) ≡ true
  pub idle-counted : (is_set f.measuring || eqb f.counted 0) ≡ true
  -- none runs on an empty flow
  pub busy : not (is_set f.measuring && eqb f.count 0) ≡ true

pub flow-fits : (c : Common) (f : Flow) → all (flow_conditions c f) ≡ true → FlowFits c f
flow-fits c f w =
    let at : (i : ℕ) → get_or (flow_conditions c f) i true ≡ true = all-at (flow_conditions c f) w in
    record {
      prob-high = leb-true _ _ (at 0);
      old-high = leb-true _ _ (at 1);
      allowance-high = leb-true _ _ (at 2);
      accumulated-high = ltb-true _ _ (at 3);
      average-high = leb-true _ _ (at 4);
      head-high = ltb-true _ _ (at 5);
      tail-high = ltb-true _ _ (at 6);
      count-high = leb-true _ _ (at 7);
      bytes_low = leb-true _ _ (at 8);
      bytes_high = leb-true _ _ (at 9);
      bytes_fit = leb-true _ _ (at 10);
      start-high = leb-true _ _ (at 11);
      counted-high = ltb-true _ _ (at 12);
      idle-start = at 13;
      idle-counted = at 14;
      busy = at 15;
    }

pub flow-passes : (c : Common) (f : Flow) → FlowFits c f → all (flow_conditions c f) ≡ true
flow-passes c f k =
    simp (
      le-leb _ _ k.prob-high,
      le-leb _ _ k.old-high,
      le-leb _ _ k.allowance-high,
      lt-ltb _ _ k.accumulated-high,
      le-leb _ _ k.average-high,
      lt-ltb _ _ k.head-high,
      lt-ltb _ _ k.tail-high,
      le-leb _ _ k.count-high,
      le-leb _ _ k.bytes_low,
      le-leb _ _ k.bytes_high,
      le-leb _ _ k.bytes_fit,
      le-leb _ _ k.start-high,
      lt-ltb _ _ k.counted-high,
      k.idle-start,
      k.idle-counted,
      k.busy,
    )

-- ── totals ──

pub record TotalsFit (c : Common) (flows : List Flow) : Type 0 where
  pub counts-are : total (counts_of flows) ≡ c.backlog.count
  pub bytes-are : total (each_bytes flows) ≡ c.backlog.bytes.0
  pub bytes_fit : c.backlog.bytes.0 ≤ c.settings.buffer.0

pub totals-fit : (c : Common) (flows : List Flow) → all (totals_conditions c flows) ≡ true → TotalsFit c flows
totals-fit c flows w =
    let at : (i : ℕ) → get_or (totals_conditions c flows) i true ≡ true = all-at (totals_conditions c flows) w in
    record {
      counts-are = eqb-true _ _ (at 0);
      bytes-are = eqb-true _ _ (at 1);
      bytes_fit = leb-true _ _ (at 2);
    }

pub totals-pass : (c : Common) (flows : List Flow) → TotalsFit c flows → all (totals_conditions c flows) ≡ true
totals-pass c flows f = simp (eq-eqb _ _ f.counts-are, eq-eqb _ _ f.bytes-are, le-leb _ _ f.bytes_fit)

-- ── the record ──

-- each part passes
pub record Passes (s : State) : Type 0 where
  pub common : all (common_conditions s.common) ≡ true
  pub flows : flows_fit s.common s.flows ≡ true
  pub totals : all (totals_conditions s.common s.flows) ≡ true
  pub lists : well_listed (counts_of s.flows) s.schedule ≡ true

pub passes : (s : State) → well_formed s ≡ true → Passes s
unfolding well_formed
passes s w =
    let a = all (common_conditions s.common) in
    let b = flows_fit s.common s.flows in
    let c = all (totals_conditions s.common s.flows) in
    let d = well_listed (counts_of s.flows) s.schedule in
    let abc = and_left (a && b && c) d w in
    let ab = and_left (a && b) c abc in
    record {
      common = and_left a b ab;
      flows = and_right a b ab;
      totals = and_right (a && b) c abc;
      lists = and_right (a && b && c) d w;
    }

pub all_pass : (s : State) → Passes s → well_formed s ≡ true
unfolding well_formed
all_pass s f = rw (f.common, f.flows, f.totals, f.lists)
