-- `State::arrived`: the new state, from what the calls return.
use mathlib.Core.Path.{◌≡◌, sym, ◌∙◌}
use mathlib.Core.Bool.{true, false, cond}
use mathlib.Core.List.{List}
use Prim.Native.Nat.{ℕ}
use Rattle.units.specs.Kinds.{micros}
use Rattle.units.specs.declared.Prob.{Prob}
use Rattle.pie.specs.Backlog.{entered}
use Rattle.pie.specs.Start.{restarted}
use Rattle.pie.specs.Verdicts.{admitted, raised}
use Rattle.pie.specs.declared.Backlog.{Backlog}
use Rattle.pie.specs.declared.Pie.{Pie}
use Rattle.pie.specs.declared.Verdict.{Verdict}
use Rattle.ring.specs.Activity.{begun, turns_active}
use Rattle.ring.specs.Arrival.{arrived_pie, arrived_state}
use Rattle.ring.specs.declared.State.{State}
use Rattle.ring.proofs.Activation.{active-begun, arrived-anew, begun-same}
use Rattle.ring.proofs.State.arrived.Goals as goal

module _ (s : State) (clock size : ℕ) (v : Verdict) (b : Backlog) (counts : List ℕ)
    (eb : b ≡ cond (admitted v) (entered s.backlog size) s.backlog) (ec : counts ≡ raised s.verdicts v) where
  -- where the queue turns active
  anew : (pie : Pie) → turns_active s ≡ true → pie ≡ restarted →
      record {
        settings = s.settings;
        clock = micros clock;
        last = s.last;
        pie = pie;
        backlog = b;
        first = s.first;
        verdicts = counts;
        active = true;
      } ≡ arrived_state (begun s) clock size v
  unfolding arrived_state begun
  anew pie t e = let p = arrived-anew s v t in let a = active-begun s t in cc

  -- where it does not
  alike : (sum : Prob) → turns_active s ≡ false → sum ≡ (arrived_pie s v).accumulated →
      record {
        settings = s.settings;
        clock = micros clock;
        last = s.last;
        pie =
            record {
              prob = s.pie.prob;
              old = s.pie.old;
              allowance = s.pie.allowance;
              accumulated = sum;
              rate = s.pie.rate;
            };
        backlog = b;
        first = s.first;
        verdicts = counts;
        active = s.active;
      } ≡ arrived_state (begun s) clock size v
  unfolding arrived_state
  alike sum t e = rw (begun-same s t, eb, ec, e)

pub returns-then-turns_active : goal.returns-then-turns_active
returns-then-turns_active c =
    anew _ _ _ _ _ _ c.entered-backlog.ensures c.raise-verdicts.ensures _ (sym c.turns_active.ensures ∙ c.if-turns_active.true) c.restarted.ensures

pub returns : goal.returns
returns c =
    alike _ _ _ _ _ _ c.entered-backlog.ensures c.raise-verdicts.ensures _ (sym c.turns_active.ensures ∙ c.if-turns_active.false)
    c.requires.accumulated_value
