-- An accepted fresh call returns well-formed records.
use mathlib.Core.Path.{◌≡◌, refl}
use mathlib.Core.Bool.{true, false}
use mathlib.Core.List.{◌++◌}
use Prim.Native.Nat.{ℕ, ◌+◌, ◌≤◌}
use native.Mathlib.Omega.{arith}
use lib.ListN.{get_or}
use borrow.Author.Tests.{leb-true, not-false}
use Rattle.laws.specs.Tests.{all}
use Rattle.laws.proofs.Choice.{at-cond}
use Rattle.laws.proofs.TestLists.{all-at}
use Rattle.pie.specs.Constants.{full_allowance, latest}
use Rattle.refusals.specs.Answer.{made}
use Rattle.pair_rules.specs.Answer.{Reply}
use Rattle.pair_rules.specs.Fresh.{empty_state, fresh, fresh_pair, fresh_shared, setup_conditions, setup_refused}
use Rattle.pair_rules.specs.WellFormed.{slots_conditions, well_formed}
use Rattle.pair_rules.specs.declared.Settings.{Settings}
use Rattle.pair_rules.specs.declared.Setup.{Setup}
use Rattle.pair_rules.proofs.Facts.{QueueFits, well-formed}

pub made-accepted : (slots : ℕ) (intercom passengers : Setup) → (fresh slots intercom passengers).answer ≡ made →
    setup_refused slots intercom passengers ≡ false
unfolding fresh
made-accepted slots intercom passengers =
    at-cond (λ (r : Reply). r.answer ≡ made → setup_refused slots intercom passengers ≡ false) (setup_refused slots intercom passengers)
    (λ b e. cc)
    (λ b e. b)

-- what fresh tests
pub record SetupsFit (slots : ℕ) (a b : Setup) : Type 0 where
  pub slots-low : 1 ≤ slots
  pub slots-high : slots ≤ 65536
  pub reserves-high : a.reserve + b.reserve ≤ slots
  pub target-low : 1000 ≤ a.settings.target.0
  pub target-high : a.settings.target.0 ≤ 100000
  pub buffer-low : 1 ≤ a.settings.buffer.0
  pub buffer-high : a.settings.buffer.0 ≤ 16777216
  pub clock-high : a.clock.0 ≤ latest
  pub other-target-low : 1000 ≤ b.settings.target.0
  pub other-target-high : b.settings.target.0 ≤ 100000
  pub other-buffer-low : 1 ≤ b.settings.buffer.0
  pub other-buffer-high : b.settings.buffer.0 ≤ 16777216
  pub other-clock-high : b.clock.0 ≤ latest

pub setups-fit : (slots : ℕ) (a b : Setup) → setup_refused slots a b ≡ false → SetupsFit slots a b
setups-fit slots a b e =
    let tests = slots_conditions (fresh_shared slots a.reserve b.reserve) ++ setup_conditions a ++ setup_conditions b in
    let at : (i : ℕ) → get_or tests i true ≡ true = all-at tests (not-false (all tests) e) in
    record {
      slots-low = leb-true _ _ (at 0);
      slots-high = leb-true _ _ (at 1);
      reserves-high = leb-true _ _ (at 2);
      target-low = leb-true _ _ (at 3);
      target-high = leb-true _ _ (at 4);
      buffer-low = leb-true _ _ (at 5);
      buffer-high = leb-true _ _ (at 6);
      clock-high = leb-true _ _ (at 7);
      other-target-low = leb-true _ _ (at 8);
      other-target-high = leb-true _ _ (at 9);
      other-buffer-low = leb-true _ _ (at 10);
      other-buffer-high = leb-true _ _ (at 11);
      other-clock-high = leb-true _ _ (at 12);
    }

empty-fits : (slots : ℕ) (settings : Settings) (clock : ℕ) → 1 ≤ slots → 1000 ≤ settings.target.0 → settings.target.0 ≤ 100000 →
    1 ≤ settings.buffer.0 → settings.buffer.0 ≤ 16777216 → clock ≤ latest → QueueFits slots (empty_state settings clock full_allowance)
empty-fits slots settings clock slots-low target-low target-high buffer-low buffer-high clock-high =
    record {
      target-low = target-low;
      target-high = target-high;
      buffer-low = buffer-low;
      buffer-high = buffer-high;
      last-high = omega arith;
      clock-high = clock-high;
      prob-high = omega arith;
      old-high = omega arith;
      allowance-high = omega arith;
      accumulated-high = omega arith;
      average-high = omega arith;
      head-high = slots-low;
      tail-high = slots-low;
      count-high = omega arith;
      bytes_low = omega arith;
      bytes_high = omega arith;
      bytes_fit = omega arith;
      start-high = omega arith;
      counted-high = omega arith;
      idle-start = refl;
      idle-counted = refl;
      busy = refl;
      total-high = omega arith;
    }

pub fresh-formed : (slots : ℕ) (a b : Setup) → SetupsFit slots a b → well_formed (fresh_pair slots a b) ≡ true
fresh-formed slots a b f =
    well-formed (fresh_pair slots a b) (record {
      shared =
          record {
            slots-low = f.slots-low;
            slots-high = f.slots-high;
            reserves-high = f.reserves-high;
            freed-high = f.slots-low;
            used_high = omega arith;
          };
      intercom =
          empty-fits slots a.settings a.clock.0 f.slots-low f.target-low f.target-high f.buffer-low f.buffer-high
          f.clock-high;
      passengers =
          empty-fits slots b.settings b.clock.0 f.slots-low f.other-target-low f.other-target-high f.other-buffer-low
          f.other-buffer-high f.other-clock-high;
      both = record { common-high = omega arith; used-is = refl };
    })

pub fresh-well-formed : (slots : ℕ) (intercom passengers : Setup) → (fresh slots intercom passengers).answer ≡ made →
    well_formed (fresh slots intercom passengers).pair ≡ true
unfolding fresh
fresh-well-formed slots intercom passengers e =
    let no = made-accepted slots intercom passengers e in
    rw no (fresh-formed slots intercom passengers (setups-fit slots intercom passengers no))
