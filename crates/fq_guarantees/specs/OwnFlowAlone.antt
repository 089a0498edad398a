-- A verdict reads the arrival's own flow alone, but for rules 1 and 2: two accepted arrivals with the same arguments, in records that agree
-- in target, buffer, salt, total bytes, whether the total count is the slots, and the PIE state and bytes of the arrival's flow, have the
-- same verdict, whatever the other flows, the lists, the deficits, the store and the tables are.
use Rattle.std.specs.Prelude.{◌≡◌, Bool, List, ℕ}
use Rattle.pie.specs.declared.Verdict.{Verdict}
use Rattle.fq_state.specs.Flow.{pie_of}
use Rattle.fq_state.specs.State.{State}
use Rattle.fq_rules.specs.Answer.{verdict}
use Rattle.fq_rules.specs.Arrival.{arrival, flow_number, slots_full}
use Rattle.fq_guarantees.specs.Shedding.{own}

-- for an arrival with this key
pub record AgreeFor (key : List ℕ) (a b : State) : Type 0 where
  pub target : a.common.settings.target ≡ b.common.settings.target
  pub buffer : a.common.settings.buffer ≡ b.common.settings.buffer
  pub salt : a.common.settings.salt ≡ b.common.settings.salt
  pub total_bytes : a.common.backlog.bytes ≡ b.common.backlog.bytes
  pub full : slots_full a.common ≡ slots_full b.common
  -- its flow, which is the same in both
  pub pie : pie_of (own (flow_number a key) a) ≡ pie_of (own (flow_number a key) b)
  pub bytes : (own (flow_number a key) a).bytes ≡ (own (flow_number a key) b).bytes

-- each call has its record and its tables
abbrev pub OwnFlowAlone : Type 0
OwnFlowAlone =
    (a b : State) (handles sizes handles' sizes' : List ℕ) (clock : ℕ) (key : List ℕ) (size : ℕ) (ecn : Bool) (u : ℕ) (v v' : Verdict) →
    AgreeFor key a b →
    (arrival a handles sizes clock key size ecn u).answer ≡ verdict v →
    (arrival b handles' sizes' clock key size ecn u).answer ≡ verdict v' →
    v ≡ v'
