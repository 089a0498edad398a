-- 28: one tick updates all flows, each with its own bytes, listed or not. Lists and deficits stay.
use Rattle.std.specs.Prelude.{Bool, false, List, [], ◌∷◌, map, ℕ}
use Rattle.units.specs.Kinds.{micros}
use Rattle.pie.specs.Update.{updated}
use Rattle.refusals.specs.Rows.{first_refusal}
use Rattle.fq_state.specs.Flow.{backlog_of, ends_of, flow_with, pie_of}
use Rattle.fq_state.specs.State.{State}
use Rattle.fq_state.specs.declared.Common.{Common}
use Rattle.fq_state.specs.declared.Flow.{Flow}
use Rattle.fq_rules.specs.Answer.{Reply, ticked, unless_refused}
use Rattle.fq_rules.specs.Refusals.{clock_refused, state_refused, too_soon_refused}

abbrev pub tick_refusals : State → (clock : ℕ) → List (ℕ × Bool)
tick_refusals s clock =
    (2, state_refused s)
    ∷ (4, clock_refused s.common clock)
    ∷ (5, too_soon_refused s.common clock)
    ∷ []

unfoldable pub tick_refusal : State → (clock : ℕ) → ℕ
tick_refusal s clock = first_refusal (tick_refusals s clock)

-- document 01's rules 1 to 9, with the flow's own bytes
unfoldable pub ticked_flow : (target : ℕ) → Flow → Flow
ticked_flow target f = flow_with f (updated (pie_of f) false target f.bytes) (backlog_of f) (ends_of f)

abbrev pub ticked_common : Common → (clock : ℕ) → Common
ticked_common c clock =
    record {
      settings = c.settings;
      clock = micros clock;
      last = micros clock;
      backlog = c.backlog;
      store = c.store;
      verdicts = c.verdicts;
    }

-- a tick that no test refuses
abbrev pub accepted_tick : State → (clock : ℕ) → Reply
accepted_tick s clock =
    record {
      answer = ticked;
      state =
          record {
            common = ticked_common s.common clock;
            schedule = s.schedule;
            flows = map (ticked_flow s.common.settings.target.0) s.flows;
          };
    }

unfoldable pub tick : State → (clock : ℕ) → Reply
tick s clock = unless_refused (tick_refusal s clock) s (accepted_tick s clock)
