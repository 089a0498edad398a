-- Question 1 for scripts: what holds of any arrival holds of each entry.
use mathlib.Core.Path.{◌≡◌, sym, ap, ◌∙◌}
use mathlib.Core.Bool.{Bool}
use mathlib.Core.List.{List, Memᴰ}
use mathlib.Core.Logic.{◌↔◌}
use Prim.Native.Nat.{ℕ}
use Rattle.pie.specs.declared.Verdict.{Verdict}
use Rattle.refusals.specs.Answer.{verdict}
use Rattle.ring.specs.Calls.{Call, arrive, reply}
use Rattle.ring_guarantees.specs.Calls.{Entry, ring_calls}
use Rattle.ring_guarantees.specs.WhichVerdict.{Grounds}
use Rattle.ring_guarantees.proofs.WhichVerdict.{which-verdict}
use Rattle.calls.proofs.Traces.{along}
use Rattle.script_guarantees.specs.Asked.{asked}
use Rattle.script_guarantees.specs.Entries.{calls_of, opened}
use Rattle.script_guarantees.specs.ScriptVerdicts.{ScriptVerdicts}
use Rattle.script_guarantees.proofs.Sound.{by_entries}

abbrev Exact : Entry → Type 0
Exact e =
    (handles sizes : List ℕ) (clock handle size : ℕ) (ecn : Bool) (u : ℕ) (v : Verdict) →
    e.call ≡ arrive handles sizes clock handle size ecn u → e.answer ≡ verdict v →
    (w : Verdict) → (v ≡ w) ↔ Grounds e.given size ecn u w

pub script-verdicts : ScriptVerdicts
script-verdicts input =
    by_entries (λ es. (e : Entry) → Memᴰ e es → Exact e)
    (λ target buffer slots requests.
    let q = opened target buffer slots in
    along ring_calls (λ s. Unit {0}) Exact (λ s h c. tt)
    (λ s h c handles sizes clock handle size ecn u v call answer.
    which-verdict s handles sizes clock handle size ecn u v (ap (λ (k : Call). (reply s k).answer) (sym call) ∙ answer))
    q.state (calls_of q requests) tt)
    (asked input)
