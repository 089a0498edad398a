-- Question 3 for scripts: in any script, the bytes on a request's line are the bytes admitted so far less the bytes departed so far.
use Rattle.std.specs.Prelude.{◌≡◌, ℕ, ◌-◌, ◌≤◌}
use mathlib.Core.List.{List, [], ◌∷◌, ◌++◌, flat_map}
use Rattle.ring_guarantees.specs.Calls.{Entry}
use Rattle.calls.specs.Packets.{bytes_of}
use Rattle.script_guarantees.specs.Asked.{asked}
use Rattle.script_guarantees.specs.Entries.{admitted_in, departed_in, entries_of}

-- a true difference; `so_far` ends with the entry itself
pub record BytesTold (e : Entry) (so_far : List Entry) : Type 0 where
  pub bytes : e.returned.backlog.bytes.0 ≡ bytes_of (flat_map admitted_in so_far) - bytes_of (flat_map departed_in so_far)
  pub cover : bytes_of (flat_map departed_in so_far) ≤ bytes_of (flat_map admitted_in so_far)

abbrev pub ScriptBytes : Type 0
ScriptBytes =
    (input : List ℕ) (before : List Entry) (e : Entry) (later : List Entry) → entries_of (asked input) ≡ before ++ e ∷ later →
    BytesTold e (before ++ e ∷ [])
