-- Two queues whose records and tables are handed back untouched at each call, from a fresh pair, and what the calls of one of them admitted
-- and handed out.
use Rattle.std.specs.Prelude.{Bool, true, false, cond, List, [], ◌∷◌, ℕ}
use Rattle.calls.specs.Handed as general
use Rattle.calls.specs.Handed.{QueueKind}
use Rattle.calls.specs.Kind.{Kind}
use Rattle.calls.specs.Packets.{Packet}
use Rattle.calls.specs.Requests as one-queue
use Rattle.calls.specs.Requests.{Request, ask_arrival, ask_departure, ask_tick}
use Rattle.refusals.specs.Answer.{Answer}
use Rattle.store_guarantees.specs.Chains.{Chain, Chains, packets_in}
use Rattle.pair_rules.specs.Answer.{Reply}
use Rattle.pair_rules.specs.Fresh.{fresh}
use Rattle.pair_rules.specs.declared.Pair.{Pair}
use Rattle.pair_rules.specs.declared.Setup.{Setup}
use Rattle.pair_rules.specs.declared.State.{State}
use Rattle.pair_rules.specs.declared.Which.{Which}
use Rattle.pair_rules.specs.declared.Which.TheVariants.{Intercom, Passengers}
use Rattle.pair_rules.specs.Arrival.{arrival, arrived_handles, arrived_sizes}
use Rattle.pair_rules.specs.Departure.{departed_sizes, departure}
use Rattle.pair_rules.specs.Tick.{tick}

-- the three records and the two tables
pub record Queues : Type 0 where
  pub pair : Pair
  pub handles : List ℕ
  pub sizes : List ℕ

-- a call names its queue; what it asks is what the ring queue is asked (crate ring_guarantees)
pub record Call : Type 0 where
  pub queue : Which
  pub asked : Request

abbrev pub reply_to : Queues → Which → Request → Reply
reply_to q w (ask_arrival clock handle size ecn u) = arrival q.pair w q.handles q.sizes clock size ecn u
reply_to q w (ask_departure clock) = departure q.pair w q.handles q.sizes clock
reply_to q w (ask_tick clock) = tick q.pair w clock

-- what a request with this reply returns: an admitted arrival writes to both tables, a departure to the sizes
abbrev pub returned : Queues → Which → Request → Reply → Queues
returned q w (ask_arrival clock handle size ecn u) r =
    record {
      pair = r.pair;
      handles = arrived_handles q.pair r.answer q.handles handle;
      sizes = arrived_sizes q.pair w r.answer q.sizes size;
    }
returned q w (ask_departure clock) r =
    record { pair = r.pair; handles = q.handles; sizes = departed_sizes q.pair w r.answer q.sizes }
returned q w (ask_tick clock) r = record { pair = r.pair; handles = q.handles; sizes = q.sizes }

abbrev pub after : Queues → Call → Queues
after q c = returned q c.queue c.asked (reply_to q c.queue c.asked)

-- an answer, and the queue whose call it answers
pub record Answered : Type 0 where
  pub queue : Which
  pub answer : Answer

abbrev pub answer_of : Queues → Call → Answered
answer_of q c = record { queue = c.queue; answer = (reply_to q c.queue c.asked).answer }

-- both queues' records, tables and calls, as a kind (crate calls)
abbrev pub two_queues : Kind
two_queues = record { State = Queues; Call = Call; Answer = Answered; answer = answer_of; next = after }

-- ── what a queue holds ──

-- both queues' chains in the tables (3); the intercom's is number 0, the passengers' number 1 (10)
abbrev pub chain_of : State → Chain
chain_of s = record { ends = s.ends; count = s.backlog.count }

abbrev pub chains_of : Queues → Chains
chains_of q =
    record {
      slots = q.pair.shared.slots;
      store = q.pair.shared.store;
      chains = chain_of q.pair.intercom ∷ chain_of q.pair.passengers ∷ [];
      handles = q.handles;
      sizes = q.sizes;
    }

abbrev pub chain_number : Which → ℕ
chain_number Intercom = 0
chain_number Passengers = 1

-- its queued packets, head first
abbrev pub queued : Which → Queues → List Packet
queued w q = packets_in (chains_of q) (chain_number w)

-- ── one of the two as a kind of queue that is handed back (crate calls) ──

abbrev pub same : Which → Which → Bool
same Intercom Intercom = true
same Intercom Passengers = false
same Passengers Intercom = false
same Passengers Passengers = true

-- what its own calls put at the tail and take from the head
abbrev pub admitted_by : Which → Call → Answered → List Packet
admitted_by w c a = cond (same w c.queue) (one-queue.admitted_by c.asked a.answer) []

abbrev pub departed_by : Which → Answered → List Packet
departed_by w a = cond (same w a.queue) (one-queue.departed_by a.answer) []

abbrev pub one_of_two : Which → QueueKind
one_of_two w =
    record {
      kind = two_queues;
      queued = queued w;
      admitted_by = admitted_by w;
      departed_by = departed_by w;
    }

-- both queues, with all that was admitted to this one and departed from it since the pair was fresh, and all answers, in order:
-- queue, admitted, departed, answers
abbrev pub Run : Which → Type 0
Run w = general.Run (one_of_two w)

abbrev pub fresh_queues : (slots : ℕ) (intercom passengers : Setup) (handles sizes : List ℕ) → Queues
fresh_queues slots intercom passengers handles sizes =
    record { pair = (fresh slots intercom passengers).pair; handles = handles; sizes = sizes }

abbrev pub run : (w : Which) (slots : ℕ) (intercom passengers : Setup) (handles sizes : List ℕ) → List Call → Run w
run w slots intercom passengers handles sizes calls =
    general.run (one_of_two w) (fresh_queues slots intercom passengers handles sizes) calls
