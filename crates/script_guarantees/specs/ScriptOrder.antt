-- Demand 2 for scripts: in any script, up to any of its requests, the packets admitted are those departed and then those that wait, handle
-- and size, in order.
use Rattle.std.specs.Prelude.{◌≡◌, ℕ}
use mathlib.Core.List.{List, ◌++◌, flat_map}
use Rattle.ring_guarantees.specs.Calls.{Entry}
use Rattle.calls.specs.Packets.{Packet}
use Rattle.script_guarantees.specs.Asked.{asked}
use Rattle.script_guarantees.specs.Entries.{admitted_in, departed_in, entries_of}

abbrev pub ScriptOrder : Type 0
ScriptOrder =
    (input : List ℕ) (before later : List Entry) → entries_of (asked input) ≡ before ++ later →
    (waiting : List Packet) × (flat_map admitted_in before ≡ flat_map departed_in before ++ waiting)
