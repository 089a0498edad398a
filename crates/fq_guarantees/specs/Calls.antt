-- Calls on 64 flows over one pair of tables.
use Rattle.std.specs.Prelude.{Bool, List, ℕ}
use Rattle.fq_state.specs.State.{State}
use Rattle.fq_rules.specs.Answer.{Reply}
use Rattle.fq_rules.specs.Arrival.{arrival, flow_number}
use Rattle.fq_rules.specs.Departure.{departure}
use Rattle.fq_rules.specs.Tick.{tick}

-- a call with all that it is given, but for the record: a departure and an arrival are lent both tables
pub data Call : Type 0 where
  arrive : (handles sizes : List ℕ) (clock : ℕ) (key : List ℕ) (handle size : ℕ) (ecn : Bool) (u : ℕ) → Call
  depart : (handles sizes : List ℕ) (clock : ℕ) → Call
  update : (clock : ℕ) → Call

abbrev pub reply : State → Call → Reply
reply s (arrive handles sizes clock key handle size ecn u) = arrival s handles sizes clock key size ecn u
reply s (depart handles sizes clock) = departure s handles sizes clock
reply s (update clock) = tick s clock

-- 22: the flow of an arrival's key; 0 for a call that has none
abbrev pub key_flow : State → Call → ℕ
key_flow s (arrive handles sizes clock key handle size ecn u) = flow_number s key
key_flow s (depart handles sizes clock) = 0
key_flow s (update clock) = 0
