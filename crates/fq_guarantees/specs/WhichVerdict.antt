-- Question 1 for 64 flows: each of the five verdicts is given to an accepted arrival exactly when the rules require it. Rules 1 and 2 read the
-- bytes and packets of all flows together, rules 3 to 7 the flow of the packet's key (docs/SHARED-TABLES.md, 25). Grounds (crate
-- pie_guarantees) has what rules 3 to 7 ask.
use Rattle.std.specs.Prelude.{◌≡◌, Bool, List, ◌↔◌, ℕ, ◌+◌, ◌≤◌, ◌<◌}
use Rattle.pie.specs.declared.Verdict.{Verdict}
use Rattle.pie_guarantees.specs.WhichVerdict.{Grounds, Limits}
use Rattle.fq_state.specs.Flow.{pie_of}
use Rattle.fq_state.specs.State.{State, flow_at}
use Rattle.fq_state.specs.declared.Common.{Common}
use Rattle.fq_rules.specs.Answer.{verdict}
use Rattle.fq_rules.specs.Arrival.{arrival, flow_number}

-- a flow has no profile, and is never inactive
abbrev pub limits_of : Common → (size : ℕ) → Limits
limits_of c size =
    record {
      Rule1 = c.settings.buffer.0 < c.backlog.bytes.0 + size;
      Rule2 = c.backlog.count ≡ c.settings.slots;
      Inactive = ⊥;
    }

-- where an arrival is answered with the verdict v, v is w exactly when the rules ask for w
abbrev pub WhichVerdict : Type 0
WhichVerdict =
    (s : State) (handles sizes : List ℕ) (clock : ℕ) (key : List ℕ) (size : ℕ) (ecn : Bool) (u : ℕ) (v : Verdict) →
    (arrival s handles sizes clock key size ecn u).answer ≡ verdict v →
    (w : Verdict) →
    let f = flow_at s.flows (flow_number s key) in
    (v ≡ w) ↔ Grounds (limits_of s.common size) (pie_of f) s.common.settings.target.0 f.bytes ecn u w
