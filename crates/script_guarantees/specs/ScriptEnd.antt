-- Where any script ends: its state and tables are those that `run` gives for its `c` and its requests.
use Rattle.std.specs.Prelude.{◌≡◌, cond, ℕ, ◌-◌, length, replicate}
use mathlib.Core.List.{List, ◌++◌, foldl, map}
use Rattle.script_command.specs.Line.{read_line}
use Rattle.ring.specs.Fresh.{zero_state}
use Rattle.script.specs.Lines.{lines_of}
use Rattle.script.specs.Script.{ScriptRun, answer_line, no_packets, start_run}
use Rattle.script.specs.declared.Stage.TheVariants.{Running, Ended}
use Rattle.script_guarantees.specs.Asked.{Asked, asked, nothing, started, unstarted}
use Rattle.script_guarantees.specs.Entries.{run_of}
use Rattle.script_guarantees.specs.ScriptText.{line_after, text_of}

-- the script's two tables: the run's own, and zeros up to the 4,096 that a script keeps
abbrev pub kept : (slots : ℕ) (table : List ℕ) → List ℕ
kept slots table = table ++ replicate (4096 - slots) 0

abbrev pub end_of : Asked → ScriptRun
end_of nothing = start_run
end_of unstarted =
    record {
      session = record { stage = Ended; line = 1; state = zero_state };
      handles = no_packets;
      sizes = no_packets;
      output = text_of unstarted;
    }
end_of (started target buffer slots body) =
    let r = run_of target buffer slots body.requests in
    record {
      session = record { stage = cond body.bad Ended Running; line = line_after (length body.requests); state = r.queue.state };
      handles = kept slots r.queue.handles;
      sizes = kept slots r.queue.sizes;
      output = text_of (started target buffer slots body);
    }

abbrev pub ScriptEnd : Type 0
ScriptEnd = (input : List ℕ) → foldl answer_line start_run (map read_line (lines_of input)) ≡ end_of (asked input)
