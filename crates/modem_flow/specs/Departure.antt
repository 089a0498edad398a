-- A departure (docs/DOCSIS-PIE.md, part 5). It writes to neither table.
use Rattle.std.specs.Prelude.{Bool, List, [], ◌∷◌, ℕ, ◌+◌, ◌%◌, get_or, length}
use Rattle.units.specs.Kinds.{micros}
use Rattle.pie.specs.Backlog.{left}
use Rattle.refusals.specs.Answer.{departed}
use Rattle.refusals.specs.Rows.{first_refusal}
use Rattle.refusals.specs.Tests.{head_refused}
use Rattle.modem_flow.specs.Answer.{Reply, unless_refused}
use Rattle.modem_flow.specs.Refusals.{clock_refused, empty_refused, state_refused, tables_refused}
use Rattle.modem_flow.specs.declared.State.{State}

-- the head's entry in a table
abbrev pub head_of : State → (table : List ℕ) → ℕ
head_of s table = get_or table s.first 0

abbrev pub departure_refusals : State → (row : List ℕ) (handles_length sizes_length clock head_size : ℕ) → List (ℕ × Bool)
departure_refusals s row handles_length sizes_length clock head_size =
    (2, state_refused s row)
    ∷ (3, tables_refused s handles_length sizes_length)
    ∷ (4, clock_refused s clock)
    ∷ (6, empty_refused s)
    ∷ (9, head_refused s.backlog head_size)
    ∷ []

unfoldable pub departure_refusal : State → (row : List ℕ) (handles_length sizes_length clock head_size : ℕ) → ℕ
departure_refusal s row handles_length sizes_length clock head_size =
    first_refusal (departure_refusals s row handles_length sizes_length clock head_size)

-- the head, of this size, leaves; first place goes up by one modulo slots; the rest stays
unfoldable pub departed_state : State → (clock size : ℕ) → State
departed_state s clock size =
    record {
      settings = s.settings;
      clock = micros clock;
      last = s.last;
      pie = s.pie;
      backlog = left s.backlog size;
      first = (s.first + 1) % s.settings.slots;
    }

unfoldable pub departure : State → (row handles sizes : List ℕ) (clock : ℕ) → Reply
departure s row handles sizes clock =
    unless_refused (departure_refusal s row (length handles) (length sizes) clock (head_of s sizes)) s
    (record { answer = departed (head_of s handles) (head_of s sizes); state = departed_state s clock (head_of s sizes) })
