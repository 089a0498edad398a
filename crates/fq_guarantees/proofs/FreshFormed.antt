-- An accepted fresh call returns a well-formed record.
use mathlib.Core.Path.{◌≡◌, refl}
use mathlib.Core.Bool.{Bool, true, false, cond}
use mathlib.Core.List.{[], ◌∷◌, ◌++◌}
use Prim.Native.Nat.{ℕ, zero, suc, ◌≤◌}
use native.Mathlib.Omega.{arith}
use lib.Dec.{leb}
use lib.ListN.{get_or, replicate}
use borrow.Author.Tests.{leb-true, ltb-true, not-false}
use Rattle.laws.specs.Tests.{all}
use Rattle.laws.proofs.TestLists.{all-at}
use Rattle.pie.specs.Constants.{full_allowance, latest}
use Rattle.schedule.specs.Ring.{ring_of}
use Rattle.schedule.specs.TwoLists.{occurs}
use Rattle.schedule.specs.WellFormed.{are_flows, every, lists_well, well_listed}
use Rattle.fq_state.specs.Flow.{empty_flow}
use Rattle.fq_state.specs.Fresh.{empty_common, fresh, fresh_refusal, fresh_state, setup_refused}
use Rattle.fq_state.specs.State.{counts_of}
use Rattle.fq_state.specs.WellFormed.{flow_conditions, flows_fit, settings_conditions, well_formed}
use Rattle.fq_state.specs.declared.Common.{Common}
use Rattle.fq_state.specs.declared.Flow.{Flow}
use Rattle.fq_state.specs.declared.Settings.{Settings}
use Rattle.fq_state.proofs.Facts.{SettingsFit, flow-passes}
use Rattle.fq_guarantees.proofs.Facts.{well-formed}

pub fresh-accepted : (settings : Settings) (clock : ℕ) → fresh_refusal settings clock ≡ 0 → setup_refused settings clock ≡ false
fresh-accepted settings clock e = go (setup_refused settings clock) e
  where
    number : Bool → ℕ
    number b = cond b 1 0

    go : (b : Bool) → number b ≡ 0 → b ≡ false
    go true z = absurd (omega arith)
    go false z = refl

-- what fresh tests
setup-fits : (s : Settings) (clock : ℕ) → setup_refused s clock ≡ false → SettingsFit s × (clock ≤ latest)
setup-fits s clock e =
    let tests = settings_conditions s ++ leb clock latest ∷ [] in
    let at : (i : ℕ) → get_or tests i true ≡ true = all-at tests (not-false (all tests) e) in (
      record {
        target-low = leb-true _ _ (at 0);
        target-high = leb-true _ _ (at 1);
        buffer-low = leb-true _ _ (at 2);
        buffer-high = leb-true _ _ (at 3);
        slots-low = leb-true _ _ (at 4);
        slots-high = leb-true _ _ (at 5);
        salt-high = ltb-true _ _ (at 6);
      },
      leb-true _ _ (at 7),
    )

repeated-fit : (c : Common) (f : Flow) (n : ℕ) → all (flow_conditions c f) ≡ true → flows_fit c (replicate n f) ≡ true
unfolding flows_fit
repeated-fit c f zero e = refl
repeated-fit c f (suc n) e = rw e (repeated-fit c f n e)

empty-passes : (s : Settings) (clock : ℕ) → SettingsFit s →
    all (flow_conditions (empty_common s clock) (empty_flow full_allowance)) ≡ true
empty-passes s clock k =
    flow-passes (empty_common s clock) (empty_flow full_allowance) (record {
      prob-high = omega arith;
      old-high = omega arith;
      allowance-high = omega arith;
      accumulated-high = omega arith;
      average-high = omega arith;
      head-high = omega (arith, k.slots-low);
      tail-high = omega (arith, k.slots-low);
      count-high = omega arith;
      bytes_low = omega arith;
      bytes_high = omega arith;
      bytes_fit = omega arith;
      start-high = omega arith;
      counted-high = omega arith;
      idle-start = refl;
      idle-counted = refl;
      busy = refl;
    })

no-flow-listed : (s : Settings) (clock : ℕ) →
    well_listed (counts_of (fresh_state s clock).flows) (fresh_state s clock).schedule ≡ true
unfolding well_listed lists_well every are_flows ring_of occurs
no-flow-listed s clock = refl

fresh-formed : (s : Settings) (clock : ℕ) → SettingsFit s → clock ≤ latest → well_formed (fresh_state s clock) ≡ true
fresh-formed s clock k high =
    well-formed (fresh_state s clock) (record {
      common =
          record {
            settings = k;
            last-high = omega arith;
            clock-high = high;
            freed-high = omega (arith, k.slots-low);
            used_high = omega arith;
            used-is = refl;
            total-high = omega arith;
          };
      flows = repeated-fit (empty_common s clock) (empty_flow full_allowance) 64 (empty-passes s clock k);
      totals = record { counts-are = refl; bytes-are = refl; bytes_fit = omega arith };
      listed = no-flow-listed s clock;
    })

pub fresh-well-formed : (settings : Settings) (clock : ℕ) → fresh_refusal settings clock ≡ 0 → well_formed (fresh settings clock) ≡ true
unfolding fresh
fresh-well-formed settings clock e =
    let no = fresh-accepted settings clock e in
    let fits = setup-fits settings clock no in
    rw no (fresh-formed settings clock fits.0 fits.1)
