-- `run` and the trace of the same requests tell the same, whatever the queue begins with.
use Rattle.std.specs.Prelude.{◌≡◌, ℕ}
use mathlib.Core.List.{List, [], ◌∷◌, flat_map, map}
use Rattle.ring.specs.declared.Settings.{Settings}
use Rattle.ring.specs.declared.State.{State}
use Rattle.ring_guarantees.specs.Calls.{Entry}
use Rattle.calls.specs.Requests.{Request}
use Rattle.ring_guarantees.specs.Handed.{Run, begin, run}
use Rattle.script_guarantees.specs.Entries.{admitted_in, departed_in, trace_of}

-- the state that the last entry returned
abbrev pub state_after : State → List Entry → State
state_after s [] = s
state_after s (e ∷ entries) = state_after e.returned entries

-- of a run from the state `start`
pub record ToldBy (start : State) (entries : List Entry) (r : Run) : Type 0 where
  pub state : r.queue.state ≡ state_after start entries
  pub answers : r.answers ≡ map (λ e. e.answer) entries
  pub admitted : r.admitted ≡ flat_map admitted_in entries
  pub departed : r.departed ≡ flat_map departed_in entries

abbrev pub RunTrace : Type 0
RunTrace =
    (settings : Settings) (clock : ℕ) (handles sizes : List ℕ) (requests : List Request) →
    let q = (begin settings clock handles sizes).queue in
    ToldBy q.state (trace_of q requests) (run settings clock handles sizes requests)
