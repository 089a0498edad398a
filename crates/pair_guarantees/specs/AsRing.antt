-- Stronger than isolation: as long as a queue's count is below its reserve wherever a packet arrives at it, it answers as the ring queue
-- (crate ring) does alone, in the plain profile, with the reserve for its slots; and so does its state move. From an accepted fresh call,
-- with a reserve of at least 1 and tables of the length of the slots, whatever the tables hold and whatever the other queue's calls are.
use Rattle.std.specs.Prelude.{◌≡◌, List, ℕ, ◌≤◌, length}
use Rattle.laws.specs.Every.{Every}
use Rattle.calls.specs.Traces.{trace}
use Rattle.calls.specs.Requests.{Request}
use Rattle.ring_guarantees.specs.Handed as ring
use Rattle.refusals.specs.Answer.{made}
use Rattle.ring.specs.Fresh.{settings_of}
use Rattle.ring.specs.declared.Settings.{Settings}
use Rattle.ring.specs.declared.State as ring-queue
use Rattle.store.specs.Fresh.{fresh_ends}
use Rattle.pair_rules.specs.declared.Setup.{Setup}
use Rattle.pair_rules.specs.declared.State.{State}
use Rattle.pair_rules.specs.declared.Which.{Which}
use Rattle.pair_guarantees.specs.Handed.{Call, Queues, two_queues}
use Rattle.pair_guarantees.specs.Isolation.{BelowReserve, answers_in, begin, fresh_for, own_calls, state_after}

-- the ring queue's settings: the reserve for its slots, and profile 0, plain
abbrev pub ring_settings : Setup → Settings
ring_settings s = settings_of s.settings.target.0 s.settings.buffer.0 s.reserve 0

-- the ring queue over the same calls, with tables of its own
abbrev pub ring_run : Setup → (handles sizes : List ℕ) → List Request → ring.Run
ring_run s handles sizes requests = ring.run (ring_settings s) s.clock.0 handles sizes requests

-- what a ring queue's state has in common with that of one of two queues
abbrev pub common : ring-queue.State → State
common s =
    record {
      settings = record { target = s.settings.target; buffer = s.settings.buffer };
      clock = s.clock;
      last = s.last;
      pie = s.pie;
      backlog = s.backlog;
      ends = fresh_ends;
      verdicts = s.verdicts;
    }

pub record Alike (w : Which) (q : Queues) (calls : List Call) (r : ring.Run) : Type 0 where
  pub answers : answers_in w q calls ≡ r.answers
  pub state : state_after w q calls ≡ common r.queue.state

abbrev pub AsRing : Type 0
AsRing =
    (w : Which) (slots : ℕ) (mine others : Setup) (handles sizes ring_handles ring_sizes : List ℕ) (calls : List Call) →
    let q = begin w slots mine others handles sizes in
    (fresh_for w slots mine others).answer ≡ made → length handles ≡ slots → length sizes ≡ slots →
    1 ≤ mine.reserve → length ring_handles ≡ mine.reserve → length ring_sizes ≡ mine.reserve →
    Every (BelowReserve w) (trace two_queues q calls) →
    Alike w q calls (ring_run mine ring_handles ring_sizes (own_calls w calls))
