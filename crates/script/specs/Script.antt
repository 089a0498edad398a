-- A script: what it writes.
use mathlib.Core.List.{List, [], ◌++◌, foldl, map}
use Rattle.std.specs.Prelude.{ℕ, Option, replicate}
use Rattle.script_command.specs.Line.{read_line}
use Rattle.script_command.specs.declared.Command.{Command}
use Rattle.ring.specs.Fresh.{zero_state}
use Rattle.script.specs.Answering.{outcome}
use Rattle.script.specs.Lines.{lines_of}
use Rattle.script.specs.declared.Session.{Session}
use Rattle.script.specs.declared.Stage.TheVariants.{First}

-- where a run stands, and what it has written
pub record ScriptRun : Type 0 where
  pub session : Session
  pub handles : List ℕ
  pub sizes : List ℕ
  pub output : List ℕ

abbrev pub start_session : Session
start_session = record { stage = First; line = 1; state = zero_state }

-- the tables' length: slots are at most 4,096
abbrev pub no_packets : List ℕ
no_packets = replicate 4096 0

abbrev pub start_run : ScriptRun
start_run = record { session = start_session; handles = no_packets; sizes = no_packets; output = [] }

unfoldable pub answer_line : ScriptRun → Option Command → ScriptRun
answer_line r command =
    let o = outcome r.session r.handles r.sizes command in
    record { session = o.session; handles = o.handles; sizes = o.sizes; output = r.output ++ o.text }

unfoldable pub script : List ℕ → List ℕ
script input = (foldl answer_line start_run (map read_line (lines_of input))).output
