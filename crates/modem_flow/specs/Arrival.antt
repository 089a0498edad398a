-- An arrival (docs/DOCSIS-PIE.md, part 4).
use Rattle.std.specs.Prelude.{Bool, cond, List, [], ◌∷◌, ℕ, ◌+◌, ◌%◌, ltb, eqb, length, set}
use Rattle.units.specs.Kinds.{micros, none}
use Rattle.pie.specs.Backlog.{entered}
use Rattle.pie.specs.Verdicts.{admitted}
use Rattle.pie.specs.declared.Verdict.{Verdict}
use Rattle.pie.specs.declared.Verdict.TheVariants.{DroppedBytes, DroppedSlots}
use Rattle.refusals.specs.Answer.{Answer, admits, verdict}
use Rattle.refusals.specs.Rows.{first_refusal}
use Rattle.refusals.specs.Tests.{size_refused}
use Rattle.docsis_pie.specs.DropDecision.{decided, with_accumulated}
use Rattle.docsis_pie.specs.declared.Decided.{Decided}
use Rattle.modem_flow.specs.Answer.{Reply, unless_refused}
use Rattle.modem_flow.specs.Refusals.{clock_refused, counts_refused, state_refused, tables_refused}
use Rattle.modem_flow.specs.declared.State.{State}

abbrev pub arrival_refusals : State → (row : List ℕ) (handles_length sizes_length clock size : ℕ) → List (ℕ × Bool)
arrival_refusals s row handles_length sizes_length clock size =
    (2, state_refused s row)
    ∷ (3, tables_refused s handles_length sizes_length)
    ∷ (4, clock_refused s clock)
    ∷ (7, size_refused size)
    ∷ (8, counts_refused row)
    ∷ []

unfoldable pub arrival_refusal : State → (row : List ℕ) (handles_length sizes_length clock size : ℕ) → ℕ
arrival_refusal s row handles_length sizes_length clock size = first_refusal (arrival_refusals s row handles_length sizes_length clock size)

-- rule 1
abbrev pub bytes_full : State → (size : ℕ) → Bool
bytes_full s size = ltb s.settings.buffer.0 (s.backlog.bytes.0 + size)

-- rule 2
abbrev pub slots_full : State → Bool
slots_full s = eqb s.backlog.count s.settings.slots

-- rules 1 and 2: a drop sets accumulated to 0
abbrev pub turned_away : State → Verdict → Decided
turned_away s v = record { verdict = v; pie = with_accumulated s.pie none }

-- rules 1 to 15
unfoldable pub decision_of : State → (size u : ℕ) → Decided
decision_of s size u =
    cond (bytes_full s size) (turned_away s DroppedBytes)
    (cond (slots_full s) (turned_away s DroppedSlots)
    (decided s.pie s.settings.target.0 s.settings.buffer.0 s.backlog.bytes.0 size u))

-- an enqueued packet goes to the tail; the rest stays
unfoldable pub arrived_state : State → (clock size : ℕ) → Decided → State
arrived_state s clock size d =
    record {
      settings = s.settings;
      clock = micros clock;
      last = s.last;
      pie = d.pie;
      backlog = cond (admitted d.verdict) (entered s.backlog size) s.backlog;
      first = s.first;
    }

unfoldable pub arrival : State → (row handles sizes : List ℕ) (clock size u : ℕ) → Reply
arrival s row handles sizes clock size u =
    let d = decision_of s size u in
    unless_refused (arrival_refusal s row (length handles) (length sizes) clock size) s
    (record { answer = verdict d.verdict; state = arrived_state s clock size d })

-- the place of the tail: the packet at place i stands at (first + i) modulo slots
abbrev pub tail_place : State → ℕ
tail_place s = (s.first + s.backlog.count) % s.settings.slots

-- a table after an arrival: an admitted one writes exactly one element
abbrev pub stored : State → Answer → (table : List ℕ) (element : ℕ) → List ℕ
stored s a table element = cond (admits a) (set table (tail_place s) element) table
