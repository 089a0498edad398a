-- 64 flows whose record and tables are handed back untouched at each call, from a fresh record, and what their calls admitted, handed out
-- and answered.
use Rattle.std.specs.Prelude.{Bool, cond, ℕ, eqb}
use mathlib.Core.List.{List, [], ◌∷◌, ◌++◌, foldl, map}
use Rattle.calls.specs.Packets.{Packet}
use Rattle.store_guarantees.specs.Chains.{Chain, Chains, packets_in}
use Rattle.fq_state.specs.Flow.{ends_of}
use Rattle.fq_state.specs.Fresh.{fresh}
use Rattle.fq_state.specs.State.{State}
use Rattle.fq_state.specs.declared.Flow.{Flow}
use Rattle.fq_state.specs.declared.Settings.{Settings}
use Rattle.fq_rules.specs.Answer.{Answer, Reply, admits, departed, refused, ticked, verdict}
use Rattle.fq_rules.specs.Arrival.{arrived_handles, arrived_sizes, flow_number}
use Rattle.fq_rules.specs.Departure.{departed_sizes}
use Rattle.fq_guarantees.specs.Calls.{Call, arrive, depart, reply, update}

-- the record and the two tables
pub record Flows : Type 0 where
  pub state : State
  pub handles : List ℕ
  pub sizes : List ℕ

-- a call as it is asked for: the flows' own tables are lent to it
pub data Request : Type 0 where
  ask_arrival : (clock : ℕ) (key : List ℕ) (handle size : ℕ) (ecn : Bool) (u : ℕ) → Request
  ask_departure : (clock : ℕ) → Request
  ask_tick : (clock : ℕ) → Request

abbrev pub call_of : Flows → Request → Call
call_of q (ask_arrival clock key handle size ecn u) = arrive q.handles q.sizes clock key handle size ecn u
call_of q (ask_departure clock) = depart q.handles q.sizes clock
call_of q (ask_tick clock) = update clock

abbrev pub answer_of : Flows → Request → Answer
answer_of q r = (reply q.state (call_of q r)).answer

-- what a request with this reply returns: an admitted arrival writes to both tables, a departure to the sizes
abbrev pub returned : Flows → Request → Reply → Flows
returned q (ask_arrival clock key handle size ecn u) r =
    record {
      state = r.state;
      handles = arrived_handles q.state r.answer q.handles handle;
      sizes = arrived_sizes q.state r.answer q.sizes key size;
    }
returned q (ask_departure clock) r =
    record { state = r.state; handles = q.handles; sizes = departed_sizes q.state r.answer q.sizes }
returned q (ask_tick clock) r = record { state = r.state; handles = q.handles; sizes = q.sizes }

abbrev pub after : Flows → Request → Flows
after q r = returned q r (reply q.state (call_of q r))

-- ── what a flow holds ──

-- the flows' chains in the tables (3)
abbrev pub chain_of : Flow → Chain
chain_of f = record { ends = ends_of f; count = f.count }

abbrev pub chains_of : Flows → Chains
chains_of q =
    record {
      slots = q.state.common.settings.slots;
      store = q.state.common.store;
      chains = map chain_of q.state.flows;
      handles = q.handles;
      sizes = q.sizes;
    }

-- its queued packets, head first
abbrev pub queued : (flow : ℕ) → Flows → List Packet
queued flow q = packets_in (chains_of q) flow

-- ── what the calls move ──

-- a packet, and the flow that it is of
pub record FlowPacket : Type 0 where
  pub flow : ℕ
  pub packet : Packet

-- those of one flow, and all, in order
abbrev pub of_flow : (flow : ℕ) → List FlowPacket → List Packet
of_flow flow [] = []
of_flow flow (p ∷ ps) = cond (eqb p.flow flow) (p.packet ∷ of_flow flow ps) (of_flow flow ps)

abbrev pub of_all : List FlowPacket → List Packet
of_all ps = map (λ p. p.packet) ps

-- the packet that an arrival brings, if it is admitted: its flow is its key's
abbrev pub brought : Flows → Request → List FlowPacket
brought q (ask_arrival clock key handle size ecn u) =
    record { flow = flow_number q.state key; packet = record { handle = handle; size = size } } ∷ []
brought q (ask_departure clock) = []
brought q (ask_tick clock) = []

abbrev pub admitted_by : Flows → Request → Answer → List FlowPacket
admitted_by q r a = cond (admits a) (brought q r) []

-- the packet that a departure hands out: its flow is the one that is answered
abbrev pub departed_by : Answer → List FlowPacket
departed_by (refused number) = []
departed_by (verdict v) = []
departed_by (departed flow handle size) = record { flow = flow; packet = record { handle = handle; size = size } } ∷ []
departed_by ticked = []

-- ── lists of calls ──

-- the flows, with all that was admitted, departed and answered since they were fresh, in order
pub record Run : Type 0 where
  pub flows : Flows
  pub admitted : List FlowPacket
  pub departed : List FlowPacket
  pub answers : List Answer

abbrev pub step : Run → Request → Run
step r q =
    let a = answer_of r.flows q in
    record {
      flows = after r.flows q;
      admitted = r.admitted ++ admitted_by r.flows q a;
      departed = r.departed ++ departed_by a;
      answers = r.answers ++ a ∷ [];
    }

abbrev pub begin : Settings → (clock : ℕ) (handles sizes : List ℕ) → Run
begin settings clock handles sizes =
    record {
      flows = record { state = fresh settings clock; handles = handles; sizes = sizes };
      admitted = [];
      departed = [];
      answers = [];
    }

abbrev pub run : Settings → (clock : ℕ) (handles sizes : List ℕ) → List Request → Run
run settings clock handles sizes requests = foldl step (begin settings clock handles sizes) requests
