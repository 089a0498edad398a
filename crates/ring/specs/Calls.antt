-- A call on a ring and its reply; a request to a queue that has its own tables, and the queue that it returns.
use Rattle.std.specs.Prelude.{Bool, List, ℕ}
use Rattle.refusals.specs.Answer.{Answer}
use Rattle.calls.specs.Requests.{Request, ask_arrival, ask_departure, ask_tick}
use Rattle.ring.specs.declared.State.{State}
use Rattle.ring.specs.Answer.{Reply}
use Rattle.ring.specs.Arrival.{arrival, stored}
use Rattle.ring.specs.Departure.{departure}
use Rattle.ring.specs.Tick.{tick}

-- a call with its arguments, and the contents of the tables that are lent to it
pub data Call : Type 0 where
  arrive : (handles sizes : List ℕ) (clock handle size : ℕ) (ecn : Bool) (u : ℕ) → Call
  depart : (handles sizes : List ℕ) (clock : ℕ) → Call
  update : (clock : ℕ) → Call

abbrev pub reply : State → Call → Reply
reply s (arrive handles sizes clock handle size ecn u) = arrival s handles sizes clock size ecn u
reply s (depart handles sizes clock) = departure s handles sizes clock
reply s (update clock) = tick s clock

-- the state and the two tables
pub record Queue : Type 0 where
  pub state : State
  pub handles : List ℕ
  pub sizes : List ℕ

-- the call that a request makes: the queue's own tables are lent to it
abbrev pub call_of : Queue → Request → Call
call_of q (ask_arrival clock handle size ecn u) = arrive q.handles q.sizes clock handle size ecn u
call_of q (ask_departure clock) = depart q.handles q.sizes clock
call_of q (ask_tick clock) = update clock

abbrev pub answer_of : Queue → Request → Answer
answer_of q r = (reply q.state (call_of q r)).answer

-- the queue that a request with this reply returns: an admitted arrival writes its handle and its size
abbrev pub returned : Queue → Request → Reply → Queue
returned q (ask_arrival clock handle size ecn u) r =
    record {
      state = r.state;
      handles = stored q.state r.answer q.handles handle;
      sizes = stored q.state r.answer q.sizes size;
    }
returned q (ask_departure clock) r = record { state = r.state; handles = q.handles; sizes = q.sizes }
returned q (ask_tick clock) r = record { state = r.state; handles = q.handles; sizes = q.sizes }

abbrev pub after : Queue → Request → Queue
after q r = returned q r (reply q.state (call_of q r))
