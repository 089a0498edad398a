-- A queue whose state and tables are handed back untouched at each call, from a fresh one, and what its calls admitted, handed out and
-- answered.
use mathlib.Core.List.{List, foldl}
use Rattle.std.specs.Prelude.{ℕ}
use Rattle.calls.specs.Handed as general
use Rattle.calls.specs.Handed.{QueueKind}
use Rattle.calls.specs.Packets.{Packet}
use Rattle.calls.specs.Requests.{Request, admitted_by, departed_by}
use Rattle.calls.specs.Ring.{ring}
use Rattle.ring.specs.declared.Settings.{Settings}
use Rattle.refusals.specs.Answer.{Answer}
use Rattle.ring.specs.Fresh.{fresh}
use Rattle.ring.specs.Calls.{Queue, answer_of, after}

-- the queued packets, head first
abbrev pub queued : Queue → List Packet
queued q = ring q.state.first q.state.settings.slots q.handles q.sizes q.state.backlog.count

-- the ring queue as a kind of queue that is handed back (crate calls)
abbrev pub ring_queue : QueueKind
ring_queue =
    record {
      kind = record { State = Queue; Call = Request; Answer = Answer; answer = answer_of; next = after };
      queued = queued;
      admitted_by = admitted_by;
      departed_by = departed_by;
    }

-- a queue, with all that was admitted, departed and answered since it was fresh, in order: queue, admitted, departed, answers
abbrev pub Run : Type 0
Run = general.Run ring_queue

abbrev pub step : Run → Request → Run
step r q = general.step ring_queue r q

abbrev pub begin : Settings → (clock : ℕ) (handles sizes : List ℕ) → Run
begin settings clock handles sizes =
    general.begin ring_queue (record { state = (fresh settings clock).state; handles = handles; sizes = sizes })

abbrev pub run : Settings → (clock : ℕ) (handles sizes : List ℕ) → List Request → Run
run settings clock handles sizes requests = foldl step (begin settings clock handles sizes) requests
