-- A departure (document 01, 'Departure'). It writes to neither table.
use Rattle.std.specs.Prelude.{Bool, List, [], ◌∷◌, ℕ, ◌+◌, ◌-◌, ◌%◌, get_or, length}
use Rattle.units.specs.Kinds.{micros}
use Rattle.pie.specs.Backlog.{left}
use Rattle.pie.specs.DepartureRate.{rate_after}
use Rattle.pie.specs.declared.Pie.{Pie}
use Rattle.refusals.specs.Rows.{first_refusal}
use Rattle.refusals.specs.Tests.{head_refused}
use Rattle.ring.specs.Answer.{Reply, unless_refused}
use Rattle.refusals.specs.Answer.{departed}
use Rattle.ring.specs.Refusals.{clock_refused, empty_refused, state_refused, tables_refused}
use Rattle.ring.specs.declared.State.{State}

-- the head's entry in a table
abbrev pub head_of : State → (table : List ℕ) → ℕ
head_of s table = get_or table s.first 0

abbrev pub departure_refusals : State → (handles_length sizes_length clock head_size : ℕ) → List (ℕ × Bool)
departure_refusals s handles_length sizes_length clock head_size =
    (2, state_refused s)
    ∷ (3, tables_refused s handles_length sizes_length)
    ∷ (4, clock_refused s clock)
    ∷ (6, empty_refused s)
    ∷ (9, head_refused s.backlog head_size)
    ∷ []

unfoldable pub departure_refusal : State → (handles_length sizes_length clock head_size : ℕ) → ℕ
departure_refusal s handles_length sizes_length clock head_size = first_refusal (departure_refusals s handles_length sizes_length clock head_size)

-- the departure rate moves on; probability, old delay, allowance and accumulated probability stay
abbrev pub departed_pie : Pie → (clock size count_left bytes_left : ℕ) → Pie
departed_pie pie clock size count_left bytes_left =
    record {
      prob = pie.prob;
      old = pie.old;
      allowance = pie.allowance;
      accumulated = pie.accumulated;
      rate = rate_after pie.rate clock size count_left bytes_left;
    }

-- the head, of this size, leaves; first place goes up by one modulo slots
unfoldable pub departed_state : State → (clock size : ℕ) → State
departed_state s clock size =
    record {
      settings = s.settings;
      clock = micros clock;
      last = s.last;
      pie = departed_pie s.pie clock size (s.backlog.count - 1) (s.backlog.bytes.0 - size);
      backlog = left s.backlog size;
      first = (s.first + 1) % s.settings.slots;
      verdicts = s.verdicts;
      active = s.active;
    }

unfoldable pub departure : State → (handles sizes : List ℕ) (clock : ℕ) → Reply
departure s handles sizes clock =
    unless_refused (departure_refusal s (length handles) (length sizes) clock (head_of s sizes)) s
    (record { answer = departed (head_of s handles) (head_of s sizes); state = departed_state s clock (head_of s sizes) })
