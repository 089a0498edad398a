-- Do a flow's bytes, and all flows' together, equal what went in less what came out? From an accepted fresh call, with record and tables
-- handed back untouched.
use Rattle.std.specs.Prelude.{◌≡◌, Bool, false, ◌≢◌, List, ℕ, ◌-◌, ◌≤◌, eqb, get_or, length}
use Rattle.calls.specs.Conservation.{times_given}
use Rattle.calls.specs.Packets.{bytes_of}
use Rattle.pie.specs.Verdicts.{place_of, total}
use Rattle.pie.specs.declared.Verdict.{Verdict}
use Rattle.fq_state.specs.Fresh.{fresh_refusal}
use Rattle.fq_state.specs.State.{counts_of, each_bytes, flow_at}
use Rattle.fq_state.specs.declared.Settings.{Settings}
use Rattle.fq_rules.specs.Answer.{Answer, departed, refused, ticked, verdict}
use Rattle.fq_guarantees.specs.Handed.{Request, Run, answer_of, of_all, of_flow, queued, run}

-- the answer to an arrival is this verdict
abbrev pub is_verdict : Verdict → Answer → Bool
is_verdict v (refused number) = false
is_verdict v (verdict w) = eqb (place_of v) (place_of w)
is_verdict v (departed flow handle size) = false
is_verdict v ticked = false

-- of one flow
pub record FlowConserved (flow : ℕ) (r : Run) : Type 0 where
  -- queued bytes = bytes admitted − bytes departed, a true difference; and so the count
  pub bytes : (flow_at r.flows.state.flows flow).bytes ≡ bytes_of (of_flow flow r.admitted) - bytes_of (of_flow flow r.departed)
  pub bytes-cover : bytes_of (of_flow flow r.departed) ≤ bytes_of (of_flow flow r.admitted)
  pub count : (flow_at r.flows.state.flows flow).count ≡ length (of_flow flow r.admitted) - length (of_flow flow r.departed)
  pub count-cover : length (of_flow flow r.departed) ≤ length (of_flow flow r.admitted)
  -- the bytes are those of the packets that its chain holds
  pub held : (flow_at r.flows.state.flows flow).bytes ≡ bytes_of (queued flow r.flows)

-- of all flows together
pub record AllConserved (r : Run) : Type 0 where
  -- the flows' bytes sum to bytes admitted − bytes departed, a true difference; and so their counts
  pub bytes : total (each_bytes r.flows.state.flows) ≡ bytes_of (of_all r.admitted) - bytes_of (of_all r.departed)
  pub bytes-cover : bytes_of (of_all r.departed) ≤ bytes_of (of_all r.admitted)
  pub count : total (counts_of r.flows.state.flows) ≡ length r.admitted - length r.departed
  pub count-cover : length r.departed ≤ length r.admitted
  -- the record's total bytes and total count are these sums
  pub total-bytes : r.flows.state.common.backlog.bytes.0 ≡ total (each_bytes r.flows.state.flows)
  pub total-count : r.flows.state.common.backlog.count ≡ total (counts_of r.flows.state.flows)

pub record Conserved (r : Run) : Type 0 where
  pub each : (flow : ℕ) → FlowConserved flow r
  pub together : AllConserved r
  -- each of the five counts is the number of arrivals so answered
  pub verdicts : (v : Verdict) → get_or r.flows.state.common.verdicts (place_of v) 0 ≡ times_given (is_verdict v) r.answers
  -- whatever call comes next, it is not refused by 2 or 9
  pub never-2 : (q : Request) → answer_of r.flows q ≢ refused 2
  pub never-9 : (q : Request) → answer_of r.flows q ≢ refused 9

abbrev pub Conservation : Type 0
Conservation =
    (settings : Settings) (clock : ℕ) (handles sizes : List ℕ) (requests : List Request) → fresh_refusal settings clock ≡ 0 →
    Conserved (run settings clock handles sizes requests)
