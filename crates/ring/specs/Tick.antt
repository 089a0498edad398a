-- A tick (document 01, 'Tick').
use Rattle.std.specs.Prelude.{Bool, cond, not, ◌&&◌, List, [], ◌∷◌, ℕ}
use Rattle.units.specs.Kinds.{micros}
use Rattle.pie.specs.Update.{updated}
use Rattle.pie.specs.declared.Pie.{Pie}
use Rattle.refusals.specs.Rows.{first_refusal}
use Rattle.ring.specs.Activity.{is_calm, turns_inactive}
use Rattle.ring.specs.Answer.{Reply, unless_refused}
use Rattle.refusals.specs.Answer.{ticked}
use Rattle.ring.specs.Refusals.{clock_refused, too_soon_refused, state_refused}
use Rattle.ring.specs.declared.State.{State}

abbrev pub tick_refusals : State → (clock : ℕ) → List (ℕ × Bool)
tick_refusals s clock =
    (2, state_refused s)
    ∷ (4, clock_refused s clock)
    ∷ (5, too_soon_refused s clock)
    ∷ []

unfoldable pub tick_refusal : State → (clock : ℕ) → ℕ
tick_refusal s clock = first_refusal (tick_refusals s clock)

-- rules 1 to 9
abbrev pub ticked_pie : State → Pie
ticked_pie s = updated s.pie (is_calm s.settings) s.settings.target.0 s.backlog.bytes.0

-- in an active queue the rules, after which it may turn inactive; in an inactive one clock and last tick alone (Q-12)
unfoldable pub ticked_state : State → (clock : ℕ) → State
ticked_state s clock =
    record {
      settings = s.settings;
      clock = micros clock;
      last = micros clock;
      pie = cond s.active (ticked_pie s) s.pie;
      backlog = s.backlog;
      first = s.first;
      verdicts = s.verdicts;
      active = s.active && not (turns_inactive s (ticked_pie s));
    }

unfoldable pub tick : State → (clock : ℕ) → Reply
tick s clock = unless_refused (tick_refusal s clock) s (record { answer = ticked; state = ticked_state s clock })
