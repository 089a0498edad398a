-- A queue that is handed back untouched at each call, and what its calls admitted, handed out and answered.
use mathlib.Core.List.{List, [], ◌∷◌, ◌++◌, foldl}
use Rattle.calls.specs.Kind.{Kind}
use Rattle.calls.specs.Packets.{Packet}

-- a kind whose states are whole queues: what is handed back is the state with its tables
pub record QueueKind : Type 1 where
  pub kind : Kind
  -- the queued packets, head first
  pub queued : kind.State → List Packet
  -- what a call with this answer puts at the tail, and what it takes from the head
  pub admitted_by : kind.Call → kind.Answer → List Packet
  pub departed_by : kind.Answer → List Packet

-- a queue, with all that was admitted, departed and answered since the run began, in order
pub record Run (k : QueueKind) : Type 0 where
  pub queue : k.kind.State
  pub admitted : List Packet
  pub departed : List Packet
  pub answers : List k.kind.Answer

abbrev pub step : (k : QueueKind) → Run k → k.kind.Call → Run k
step k r c =
    let a = k.kind.answer r.queue c in
    record {
      queue = k.kind.next r.queue c;
      admitted = r.admitted ++ k.admitted_by c a;
      departed = r.departed ++ k.departed_by a;
      answers = r.answers ++ a ∷ [];
    }

abbrev pub begin : (k : QueueKind) → k.kind.State → Run k
begin k q = record { queue = q; admitted = []; departed = []; answers = [] }

abbrev pub run : (k : QueueKind) → k.kind.State → List k.kind.Call → Run k
run k q calls = foldl (step k) (begin k q) calls
