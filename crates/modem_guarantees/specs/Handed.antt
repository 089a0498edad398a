-- A flow whose state, row and tables are handed back untouched at each call, from a fresh one, and what its calls admitted, handed out and
-- answered.
use Rattle.std.specs.Prelude.{cond, List, [], ◌∷◌, ℕ}
use Rattle.calls.specs.Handed as general
use Rattle.calls.specs.Handed.{QueueKind}
use Rattle.calls.specs.Packets.{Packet}
use Rattle.calls.specs.Ring.{ring}
use Rattle.pie.specs.Verdicts.{raised}
use Rattle.refusals.specs.Answer.{Answer, admits, departed, made, refused, ticked, verdict}
use Rattle.modem_flow.specs.declared.Settings.{Settings}
use Rattle.modem_flow.specs.declared.State.{State}
use Rattle.modem_flow.specs.Answer.{Reply}
use Rattle.modem_flow.specs.Arrival.{stored}
use Rattle.modem_flow.specs.Fresh.{fresh}
use Rattle.modem.specs.Asked.{Request, ask_arrival, ask_departure, ask_tick}
use Rattle.modem.specs.Counts.{zero_row}
use Rattle.modem_guarantees.specs.Calls.{Call, arrive, depart, reply, update}

-- the state, the flow's row of the counts, and the two tables
pub record Queue : Type 0 where
  pub state : State
  pub row : List ℕ
  pub handles : List ℕ
  pub sizes : List ℕ

-- the queued packets, head first
abbrev pub queued : Queue → List Packet
queued q = ring q.state.first q.state.settings.slots q.handles q.sizes q.state.backlog.count

abbrev pub call_of : Queue → Request → Call
call_of q (ask_arrival clock handle size u) = arrive q.row q.handles q.sizes clock handle size u
call_of q (ask_departure clock) = depart q.row q.handles q.sizes clock
call_of q (ask_tick clock credits) = update q.row clock credits

abbrev pub answer_of : Queue → Request → Answer
answer_of q r = (reply q.state (call_of q r)).answer

-- the row after a call that was so answered: an accepted fresh call sets it to 0, and a verdict's count rises by one
abbrev pub row_after : Answer → (row : List ℕ) → List ℕ
row_after (refused number) row = row
row_after made row = zero_row
row_after (verdict v) row = raised row v
row_after (departed handle size) row = row
row_after ticked row = row

-- the flow that a request with this reply returns: an admitted arrival writes its handle and its size
abbrev pub returned : Queue → Request → Reply → Queue
returned q (ask_arrival clock handle size u) r =
    record {
      state = r.state;
      row = row_after r.answer q.row;
      handles = stored q.state r.answer q.handles handle;
      sizes = stored q.state r.answer q.sizes size;
    }
returned q (ask_departure clock) r = record { state = r.state; row = row_after r.answer q.row; handles = q.handles; sizes = q.sizes }
returned q (ask_tick clock credits) r =
    record { state = r.state; row = row_after r.answer q.row; handles = q.handles; sizes = q.sizes }

abbrev pub after : Queue → Request → Queue
after q r = returned q r (reply q.state (call_of q r))

-- the packet that an arrival brings, if it is admitted
abbrev pub brought : Request → List Packet
brought (ask_arrival clock handle size u) = record { handle = handle; size = size } ∷ []
brought (ask_departure clock) = []
brought (ask_tick clock credits) = []

abbrev pub admitted_by : Request → Answer → List Packet
admitted_by r a = cond (admits a) (brought r) []

-- the packet that a departure hands out
abbrev pub departed_by : Answer → List Packet
departed_by (refused number) = []
departed_by made = []
departed_by (verdict v) = []
departed_by (departed handle size) = record { handle = handle; size = size } ∷ []
departed_by ticked = []

-- a flow as a kind of queue that is handed back (crate calls)
abbrev pub flow_queue : QueueKind
flow_queue =
    record {
      kind = record { State = Queue; Call = Request; Answer = Answer; answer = answer_of; next = after };
      queued = queued;
      admitted_by = admitted_by;
      departed_by = departed_by;
    }

-- a flow, with all that was admitted, departed and answered since it was fresh, in order
abbrev pub Run : Type 0
Run = general.Run flow_queue

-- a fresh flow, over any tables; its row is five zeros
abbrev pub fresh_queue : Settings → (clock : ℕ) (handles sizes : List ℕ) → Queue
fresh_queue settings clock handles sizes =
    record { state = (fresh settings clock).state; row = zero_row; handles = handles; sizes = sizes }

abbrev pub run : Settings → (clock : ℕ) (handles sizes : List ℕ) → List Request → Run
run settings clock handles sizes requests = general.run flow_queue (fresh_queue settings clock handles sizes) requests
