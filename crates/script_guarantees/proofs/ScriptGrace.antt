-- Question 2 for scripts: a script's entries are a trace.
use mathlib.Core.Path.{◌≡◌}
use mathlib.Core.List.{List, ◌∷◌, ◌++◌, Memᴰ}
use Prim.Native.Nat.{ℕ, ◌+◌}
use native.Mathlib.Omega.{arith}
use Rattle.pie.specs.Constants.{full_allowance}
use Rattle.ring_guarantees.specs.Calls.{ByLimitsBefore, Entry, ring_calls}
use Rattle.calls.specs.Requests.{Request}
use Rattle.ring_guarantees.proofs.Grace.{ticked-by-limits}
use Rattle.calls.proofs.Traces.{cut}
use Rattle.script_guarantees.specs.Asked.{asked}
use Rattle.script_guarantees.specs.Entries.{calls_of, opened, trace_of}
use Rattle.script_guarantees.specs.ScriptGrace.{ScriptGrace}
use Rattle.script_guarantees.proofs.Sound.{by_entries}

abbrev Lasts : (t : ℕ) → List Entry → Type 0
Lasts t later = (a : Entry) → Memᴰ a later → ByLimitsBefore (t + full_allowance) a

pub script-grace : ScriptGrace
script-grace input before e later t h ec ea full = by_entries (λ es. es ≡ before ++ e ∷ later → Lasts t later) go (asked input) h
  where
    go : (target buffer slots : ℕ) (requests : List Request) → trace_of (opened target buffer slots) requests ≡ before ++ e ∷ later →
        Lasts t later
    go target buffer slots requests q =
        let o = opened target buffer slots in
        let k = cut ring_calls (λ n x. tt) (λ n s. Unit {0}) (λ n s h c. tt) (tt {0}) o.state (calls_of o requests) before e later tt q in
        ticked-by-limits e later t _ k ec ea (omega arith)
