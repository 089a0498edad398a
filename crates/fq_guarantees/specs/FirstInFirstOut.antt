-- Demand 2 over lists of calls of 64 flows: from an accepted fresh call, with record and tables handed back untouched, those admitted to a
-- flow are those departed from it and then those that its chain holds, handle and size, in order. The tables may hold anything at first.
use Rattle.std.specs.Prelude.{◌≡◌, List, ◌++◌, ℕ}
use Rattle.fq_state.specs.Fresh.{fresh_refusal}
use Rattle.fq_state.specs.declared.Settings.{Settings}
use Rattle.fq_guarantees.specs.Handed.{Request, Run, of_flow, queued, run}

abbrev pub InOrder : (flow : ℕ) → Run → Type 0
InOrder flow r = of_flow flow r.admitted ≡ of_flow flow r.departed ++ queued flow r.flows

abbrev pub FirstInFirstOut : Type 0
FirstInFirstOut =
    (settings : Settings) (clock : ℕ) (handles sizes : List ℕ) (requests : List Request) → fresh_refusal settings clock ≡ 0 →
    (flow : ℕ) → InOrder flow (run settings clock handles sizes requests)
