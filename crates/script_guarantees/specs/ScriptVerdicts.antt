-- Question 1 for scripts: in any script, each of the five verdicts is given to an accepted arrival exactly when the rules require it.
use Rattle.std.specs.Prelude.{◌≡◌, Bool, ◌↔◌, ℕ}
use mathlib.Core.List.{List, Memᴰ}
use Rattle.pie.specs.declared.Verdict.{Verdict}
use Rattle.refusals.specs.Answer.{verdict}
use Rattle.ring_guarantees.specs.Calls.{Entry}
use Rattle.ring.specs.Calls.{arrive}
use Rattle.ring_guarantees.specs.WhichVerdict.{Grounds}
use Rattle.script_guarantees.specs.Asked.{asked}
use Rattle.script_guarantees.specs.Entries.{entries_of}

abbrev pub ScriptVerdicts : Type 0
ScriptVerdicts =
    (input : List ℕ) (e : Entry) → Memᴰ e (entries_of (asked input)) →
    (handles sizes : List ℕ) (clock handle size : ℕ) (ecn : Bool) (u : ℕ) (v : Verdict) →
    e.call ≡ arrive handles sizes clock handle size ecn u → e.answer ≡ verdict v →
    (w : Verdict) → (v ≡ w) ↔ Grounds e.given size ecn u w
