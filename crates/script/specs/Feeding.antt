-- The runner's own steps, a byte at a time.
use Rattle.std.specs.Prelude.{Bool, true, false, cond, ◌||◌, ℕ, ◌-◌, eqb, ltb}
use mathlib.Core.List.{List, foldl}
use Rattle.lines.specs.Reader.{begun, is_empty, pushed}
use Rattle.script_command.specs.Reader.{finished}
use Rattle.lines.specs.declared.Reader.{Reader}
use Rattle.script.specs.Script.{ScriptRun, answer_line, start_session}
use Rattle.script.specs.declared.Runner.{Runner}
use Rattle.script.specs.declared.Stage.{Stage}
use Rattle.script.specs.declared.Stage.TheVariants.{First, Running, Ended}

-- a run, and the reader of the line that has begun
pub record Machine : Type 0 where
  pub run : ScriptRun
  pub reader : Reader

-- a runner with the tables that it is lent and what it has written
abbrev pub machine : Runner → (handles sizes output : List ℕ) → Machine
machine r handles sizes output =
    record { run = record { session = r.session; handles = handles; sizes = sizes; output = output }; reader = r.reader }

abbrev pub start_runner : Runner
start_runner = record { session = start_session; reader = begun }

-- the line is whole
abbrev pub line_fed : Machine → Machine
line_fed m = record { run = answer_line m.run (finished m.reader); reader = begun }

abbrev pub byte_fed : Machine → (byte : ℕ) → Machine
byte_fed m byte = cond (eqb byte 10) (line_fed m) (record { run = m.run; reader = pushed m.reader byte })

unfoldable pub fed : Machine → (bytes : List ℕ) → Machine
fed m bytes = foldl byte_fed m bytes

-- the end of the input: what follows the last newline is a line unless it is empty
unfoldable pub end_fed : Machine → Machine
end_fed m = cond (is_empty m.reader.phase) m (line_fed m)

-- ── why the runner stops ──

-- room that is enough for any output line
abbrev pub room : ℕ
room = 128

abbrev pub has_ended : Stage → Bool
has_ended First = false
has_ended Running = false
has_ended Ended = true

-- all is taken, or the run has ended, or there is no room for another output line
abbrev pub stops : (taken input_length : ℕ) → Stage → (written output_length : ℕ) → Bool
stops taken input_length stage written output_length =
    eqb taken input_length || has_ended stage || ltb (output_length - written) room
