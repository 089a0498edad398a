-- What a script asks for: a `c`, then requests, up to its end or to the first line that is no request.
use Rattle.std.specs.Prelude.{Bool, true, false, List, [], ◌∷◌, map, Option, None, Some, ℕ}
use Rattle.script_command.specs.Line.{read_line}
use Rattle.script_command.specs.declared.Command.{Command}
use Rattle.script_command.specs.declared.Command.TheVariants.{Configure, Arrival, Departure, Tick}
use Rattle.calls.specs.Requests.{Request, ask_arrival, ask_departure, ask_tick}
use Rattle.script.specs.Lines.{lines_of}

-- the lines after the `c`
pub record Body : Type 0 where
  pub requests : List Request
  -- whether a line follows them that is no request: one of no form, or a second `c`
  pub bad : Bool

pub data Asked : Type 0 where
  -- no line
  nothing : Asked
  -- a first line other than `c`
  unstarted : Asked
  -- a `c`
  started : (target buffer slots : ℕ) (body : Body) → Asked

abbrev pub over : (bad : Bool) → Body
over bad = record { requests = []; bad = bad }

abbrev pub asking : Request → Body → Body
asking r b = record { requests = r ∷ b.requests; bad = b.bad }

-- nothing behind a bad line counts
abbrev pub body_of : List (Option Command) → Body
body_of [] = over false
body_of (None ∷ rest) = over true
body_of (Some (Configure target buffer slots) ∷ rest) = over true
body_of (Some (Arrival clock handle size ecn u) ∷ rest) = asking (ask_arrival clock handle size ecn u) (body_of rest)
body_of (Some (Departure clock) ∷ rest) = asking (ask_departure clock) (body_of rest)
body_of (Some (Tick clock) ∷ rest) = asking (ask_tick clock) (body_of rest)

abbrev pub asked_by : List (Option Command) → Asked
asked_by [] = nothing
asked_by (None ∷ rest) = unstarted
asked_by (Some (Configure target buffer slots) ∷ rest) = started target buffer slots (body_of rest)
asked_by (Some (Arrival clock handle size ecn u) ∷ rest) = unstarted
asked_by (Some (Departure clock) ∷ rest) = unstarted
asked_by (Some (Tick clock) ∷ rest) = unstarted

-- by the lines of a script
abbrev pub asked : (input : List ℕ) → Asked
asked input = asked_by (map read_line (lines_of input))
