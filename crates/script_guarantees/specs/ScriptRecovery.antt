-- Demand 3 and question 4 for scripts: in any script, wherever it is cut, 1,000 ticks on an empty queue bring the probability to 0, and for
-- 150,000 microseconds after the last of them rules 1 and 2 alone decide.
use Rattle.std.specs.Prelude.{◌≡◌, List, ◌∷◌, ◌++◌, ℕ}
use Rattle.ring_guarantees.specs.Calls.{Entry}
use Rattle.ring_guarantees.specs.Recovery.{RecoveredAfter}
use Rattle.script_guarantees.specs.Asked.{asked}
use Rattle.script_guarantees.specs.Entries.{entries_of}

-- a script's queue begins empty
abbrev pub ScriptRecovery : Type 0
ScriptRecovery =
    (input : List ℕ) (before : List Entry) (e : Entry) (later : List Entry) → entries_of (asked input) ≡ before ++ e ∷ later →
    RecoveredAfter 1000 0 before e later
