-- Question 2 for scripts: in any script, after an accepted tick that fills the allowance, at the clock t, each accepted arrival with a
-- clock below t + 150,000 is answered by rules 1 and 2 alone.
use Rattle.std.specs.Prelude.{◌≡◌, ℕ, ◌+◌}
use mathlib.Core.List.{List, ◌∷◌, ◌++◌, Memᴰ}
use Rattle.pie.specs.Constants.{full_allowance}
use Rattle.refusals.specs.Answer.{ticked}
use Rattle.ring_guarantees.specs.Calls.{ByLimitsBefore, Entry}
use Rattle.ring.specs.Calls.{update}
use Rattle.script_guarantees.specs.Asked.{asked}
use Rattle.script_guarantees.specs.Entries.{entries_of}

abbrev pub ScriptGrace : Type 0
ScriptGrace =
    (input : List ℕ) (before : List Entry) (e : Entry) (later : List Entry) (t : ℕ) →
    entries_of (asked input) ≡ before ++ e ∷ later →
    e.call ≡ update t → e.answer ≡ ticked → e.returned.pie.allowance.0 ≡ full_allowance →
    (a : Entry) → Memᴰ a later → ByLimitsBefore (t + full_allowance) a
