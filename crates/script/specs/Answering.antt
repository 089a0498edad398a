-- A command answered by the queue's rules.
use Rattle.std.specs.Prelude.{List, ◌++◌, [], Option, None, Some, ℕ, ◌+◌, ◌-◌, ◌^◌, min, drop, take}
use Rattle.script_command.specs.declared.Command.{Command}
use Rattle.script_command.specs.declared.Command.TheVariants.{Configure, Arrival, Departure, Tick}
use Rattle.ring.specs.Answer.{Reply}
use Rattle.ring.specs.Arrival.{arrival, stored}
use Rattle.ring.specs.Departure.{departure}
use Rattle.ring.specs.Fresh.{fresh, settings_of}
use Rattle.ring.specs.Tick.{tick}
use Rattle.ring.specs.declared.State.{State}
use Rattle.script_answers.specs.Output.{bad_text, reply_text}
use Rattle.script.specs.declared.Session.{Session}
use Rattle.script.specs.declared.Stage.{Stage}
use Rattle.script.specs.declared.Stage.TheVariants.{First, Running, Ended}

-- what a line leaves and writes
pub record Outcome : Type 0 where
  pub session : Session
  -- the two tables; a call is lent the first `slots` of each
  pub handles : List ℕ
  pub sizes : List ℕ
  pub text : List ℕ

-- lines are counted from 1, and no further than to 2^64 − 1
abbrev pub next_line : (line : ℕ) → ℕ
next_line line = min (line + 1) (2 ^ 64 - 1)

-- a call has returned this state
abbrev pub continued : Session → State → Session
continued s state = record { stage = Running; line = next_line s.line; state = state }

-- a call's reply
abbrev pub replied : Session → Reply → (handles sizes : List ℕ) → Outcome
replied s r handles sizes =
    record {
      session = continued s r.state;
      handles = handles;
      sizes = sizes;
      text = reply_text r;
    }

-- a bad line ends the run
abbrev pub refused_line : Session → (handles sizes : List ℕ) → Outcome
refused_line s handles sizes =
    record {
      session = record { stage = Ended; line = s.line; state = s.state };
      handles = handles;
      sizes = sizes;
      text = bad_text s.line;
    }

-- the first line: a `c`, whose start clock is 0; the queue is plain (Q-12)
unfoldable pub first_line : Session → (handles sizes : List ℕ) → Option Command → Outcome
first_line s handles sizes None = refused_line s handles sizes
first_line s handles sizes (Some (Configure target buffer slots)) = replied s (fresh (settings_of target buffer slots 0) 0) handles sizes
first_line s handles sizes (Some (Arrival clock handle size ecn u)) = refused_line s handles sizes
first_line s handles sizes (Some (Departure clock)) = refused_line s handles sizes
first_line s handles sizes (Some (Tick clock)) = refused_line s handles sizes

abbrev pub arrival_line : Session → (handles sizes : List ℕ) → Reply → (slots handle size : ℕ) → Outcome
arrival_line s handles sizes r slots handle size =
    replied s r
    (stored s.state r.answer (take slots handles) handle ++ drop slots handles)
    (stored s.state r.answer (take slots sizes) size ++ drop slots sizes)

-- a later line: no `c`
unfoldable pub later_line : Session → (handles sizes : List ℕ) → Option Command → Outcome
later_line s handles sizes None = refused_line s handles sizes
later_line s handles sizes (Some (Configure target buffer slots)) = refused_line s handles sizes
later_line s handles sizes (Some (Arrival clock handle size ecn u)) =
    let slots = s.state.settings.slots in
    arrival_line s handles sizes (arrival s.state (take slots handles) (take slots sizes) clock size ecn u) slots handle size
later_line s handles sizes (Some (Departure clock)) =
    let slots = s.state.settings.slots in
    replied s (departure s.state (take slots handles) (take slots sizes) clock) handles sizes
later_line s handles sizes (Some (Tick clock)) = replied s (tick s.state clock) handles sizes

abbrev pub at_stage : Stage → Session → (handles sizes : List ℕ) → Option Command → Outcome
at_stage First s handles sizes command = first_line s handles sizes command
at_stage Running s handles sizes command = later_line s handles sizes command
at_stage Ended s handles sizes command = record { session = s; handles = handles; sizes = sizes; text = [] }

unfoldable pub outcome : Session → (handles sizes : List ℕ) → Option Command → Outcome
outcome s handles sizes command = at_stage s.stage s handles sizes command
