-- The calls that a script makes after its `c`, and their trace.
use Rattle.std.specs.Prelude.{cond, List, [], ◌∷◌, ℕ, replicate}
use Rattle.refusals.specs.Answer.{admits}
use Rattle.ring.specs.Fresh.{settings_of}
use Rattle.ring.specs.Calls.{Call, arrive, depart, update}
use Rattle.ring_guarantees.specs.Calls.{Entry, trace}
use Rattle.calls.specs.Packets.{Packet}
use Rattle.ring.specs.Calls.{Queue, after, call_of}
use Rattle.ring_guarantees.specs.Handed.{Run, begin, run}
use Rattle.calls.specs.Requests.{Request, departed_by}
use Rattle.script_guarantees.specs.Asked.{Asked, nothing, started, unstarted}

-- requests as calls: each is lent the tables as the one before it left them
abbrev pub calls_of : Queue → List Request → List Call
calls_of q [] = []
calls_of q (r ∷ rest) = call_of q r ∷ calls_of (after q r) rest

abbrev pub trace_of : Queue → List Request → List Entry
trace_of q requests = trace q.state (calls_of q requests)

-- the queue that a `c` makes: the start clock is 0, and its tables hold nothing
abbrev pub opened : (target buffer slots : ℕ) → Queue
opened target buffer slots = (begin (settings_of target buffer slots 0) 0 (replicate slots 0) (replicate slots 0)).queue

-- and its run over requests
abbrev pub run_of : (target buffer slots : ℕ) → List Request → Run
run_of target buffer slots requests = run (settings_of target buffer slots 0) 0 (replicate slots 0) (replicate slots 0) requests

-- one entry for each request
abbrev pub entries_of : Asked → List Entry
entries_of nothing = []
entries_of unstarted = []
entries_of (started target buffer slots body) = trace_of (opened target buffer slots) body.requests

-- ── the packets of an entry ──

abbrev pub packet_in : Call → List Packet
packet_in (arrive handles sizes clock handle size ecn u) = record { handle = handle; size = size } ∷ []
packet_in (depart handles sizes clock) = []
packet_in (update clock) = []

-- the packet of an arrival that was answered enqueued or marked
abbrev pub admitted_in : Entry → List Packet
admitted_in e = cond (admits e.answer) (packet_in e.call) []

-- the packet that a departure handed out
abbrev pub departed_in : Entry → List Packet
departed_in e = departed_by e.answer
