-- Lists of calls on two queues over one pair of tables, and one queue's own calls among whatever else is done.
use Rattle.calls.specs.Kind.{Kind}
use Rattle.refusals.specs.Answer.{Answer}
use Rattle.ring.specs.Calls.{Call, arrive, depart, update}
use Rattle.pair_rules.specs.Answer.{Reply}
use Rattle.pair_rules.specs.Queues.{own, paired}
use Rattle.pair_rules.specs.declared.Pair.{Pair}
use Rattle.pair_rules.specs.declared.Shared.{Shared}
use Rattle.pair_rules.specs.declared.State.{State}
use Rattle.pair_rules.specs.declared.Which.{Which}
use Rattle.pair_rules.specs.Arrival.{arrival}
use Rattle.pair_rules.specs.Departure.{departure}
use Rattle.pair_rules.specs.Tick.{tick}

-- what a queue is asked is what the ring queue is asked (crate ring_guarantees): arrive, depart or update, with arguments and lent tables
abbrev pub reply : Pair → Which → Call → Reply
reply p w (arrive handles sizes clock handle size ecn u) = arrival p w handles sizes clock size ecn u
reply p w (depart handles sizes clock) = departure p w handles sizes clock
reply p w (update clock) = tick p w clock

-- ── both queues' calls, in any order ──

pub record PairCall : Type 0 where
  pub queue : Which
  pub call : Call

-- the three records are handed on as the last call returned them; any tables may be lent to each call
abbrev pub pair_calls : Kind
pair_calls =
    record {
      State = Pair;
      Call = PairCall;
      Answer = Answer;
      answer = λ p c. (reply p c.queue c.call).answer;
      next = λ p c. (reply p c.queue c.call).pair;
    }

-- ── one queue's own calls, whatever the other does ──

-- a call, with the shared record and the other queue's state that it is given
pub record OwnCall : Type 0 where
  pub shared : Shared
  pub other : State
  pub call : Call

-- the three records that it is given, where the queue's own state is this
abbrev pub records : Which → State → OwnCall → Pair
records w s c = paired w c.shared s c.other

-- the queue's state is handed on as its last call returned it; all else may be anything at each call
abbrev pub own_calls : Which → Kind
own_calls w =
    record {
      State = State;
      Call = OwnCall;
      Answer = Answer;
      answer = λ s c. (reply (records w s c) w c.call).answer;
      next = λ s c. own w (reply (records w s c) w c.call).pair;
    }
