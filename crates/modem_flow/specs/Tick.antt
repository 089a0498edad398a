-- A tick (docs/DOCSIS-PIE.md, part 6).
use Rattle.std.specs.Prelude.{Bool, List, [], ◌∷◌, ℕ}
use Rattle.units.specs.Kinds.{micros}
use Rattle.refusals.specs.Answer.{ticked}
use Rattle.refusals.specs.Rows.{first_refusal}
use Rattle.docsis_pie.specs.Update.{updated}
use Rattle.modem_flow.specs.Answer.{Reply, unless_refused}
use Rattle.modem_flow.specs.Refusals.{clock_refused, state_refused, too_soon_refused}
use Rattle.modem_flow.specs.declared.State.{State}

abbrev pub tick_refusals : State → (row : List ℕ) (clock : ℕ) → List (ℕ × Bool)
tick_refusals s row clock =
    (2, state_refused s row)
    ∷ (4, clock_refused s clock)
    ∷ (5, too_soon_refused s clock)
    ∷ []

unfoldable pub tick_refusal : State → (row : List ℕ) (clock : ℕ) → ℕ
tick_refusal s row clock = first_refusal (tick_refusals s row clock)

-- rules 1 to 12
unfoldable pub ticked_state : State → (clock credits : ℕ) → State
ticked_state s clock credits =
    let settings = s.settings in
    record {
      settings = settings;
      clock = micros clock;
      last = micros clock;
      pie = updated s.pie settings.target.0 s.backlog.bytes.0 credits settings.peak.0 settings.sustained.0;
      backlog = s.backlog;
      first = s.first;
    }

unfoldable pub tick : State → (row : List ℕ) (clock credits : ℕ) → Reply
tick s row clock credits =
    unless_refused (tick_refusal s row clock) s (record { answer = ticked; state = ticked_state s clock credits })
