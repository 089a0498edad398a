-- 17: a tick is document 01's on the called queue. It is lent no table and writes to no shared record.
use Rattle.std.specs.Prelude.{Bool, false, List, [], ◌∷◌, ℕ}
use Rattle.units.specs.Kinds.{micros}
use Rattle.pie.specs.Update.{updated}
use Rattle.refusals.specs.Answer.{ticked}
use Rattle.refusals.specs.Rows.{first_refusal}
use Rattle.pair_rules.specs.Answer.{Reply}
use Rattle.pair_rules.specs.Answer.{unless_refused}
use Rattle.pair_rules.specs.Queues.{other, own, paired}
use Rattle.pair_rules.specs.Refusals.{clock_refused, pair_refused, too_soon_refused}
use Rattle.pair_rules.specs.declared.Pair.{Pair}
use Rattle.pair_rules.specs.declared.State.{State}
use Rattle.pair_rules.specs.declared.Which.{Which}

abbrev pub tick_refusals : Pair → Which → (clock : ℕ) → List (ℕ × Bool)
tick_refusals p w clock =
    (2, pair_refused p)
    ∷ (4, clock_refused (own w p) clock)
    ∷ (5, too_soon_refused (own w p) clock)
    ∷ []

unfoldable pub tick_refusal : Pair → Which → (clock : ℕ) → ℕ
tick_refusal p w clock = first_refusal (tick_refusals p w clock)

-- document 01's rules 1 to 9
unfoldable pub ticked_state : State → (clock : ℕ) → State
ticked_state s clock =
    record {
      settings = s.settings;
      clock = micros clock;
      last = micros clock;
      pie = updated s.pie false s.settings.target.0 s.backlog.bytes.0;
      backlog = s.backlog;
      ends = s.ends;
      verdicts = s.verdicts;
    }

unfoldable pub tick : Pair → Which → (clock : ℕ) → Reply
tick p w clock =
    unless_refused (tick_refusal p w clock) p
    (record { answer = ticked; pair = paired w p.shared (ticked_state (own w p) clock) (other w p) })
