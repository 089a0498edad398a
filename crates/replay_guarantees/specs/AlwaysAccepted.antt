-- A log that the writer made of a single queue's accepted calls from fresh, all in order, state, tables and bytes untouched between calls,
-- is always accepted, whatever the tables that are lent to the replay held (Q-10).
use Rattle.std.specs.Prelude.{◌≡◌, List, ℕ, ◌+◌, ◌*◌, ◌≤◌, length}
use Rattle.ring.specs.Fresh.{settings_of}
use Rattle.log_codec.specs.declared.Header.{Header}
use Rattle.ring.specs.Calls.{Queue}
use Rattle.ring_guarantees.specs.Handed.{begin, queued, run}
use Rattle.calls.specs.Requests.{Request}
use Rattle.call_log.specs.Writer.{begin as begin_log}
use Rattle.log_guarantees.specs.Run.{log_of, run as write}
use Rattle.replay.specs.Replay.{Replay, accepted, replay}
use Rattle.replay_guarantees.specs.Recorded.{AllFit, recorded}

-- n records, each as the rules give it; the replay ends in the state of this queue, with the same packets queued
pub record AcceptedAs (R : Replay) (n : ℕ) (q : Queue) : Type 0 where
  pub replayed : Queue
  pub accepts : R ≡ accepted n replayed
  pub state : replayed.state ≡ q.state
  pub packets : queued replayed ≡ queued q

abbrev pub AlwaysAccepted : Type 0
AlwaysAccepted =
    (h : Header) (note bytes : List ℕ) (own_handles own_sizes : List ℕ) (requests : List Request) →
    let settings = settings_of h.target h.buffer h.slots h.profile in
    -- the queue's calls, whatever is refused among them, and their records
    let q = (begin settings h.clock own_handles own_sizes).queue in
    let records = recorded q requests in
    AllFit requests →
    -- the writer accepts settings and note, and has room: at most 100,000 records, and bytes for them
    (begin_log h note bytes).refusal ≡ 0 → length records ≤ 100000 → 48 + length note + 40 * length records ≤ length bytes →
    let log = write h note bytes records in
    -- any tables of the settings' slots
    (handles sizes : List ℕ) → length handles ≡ h.slots → length sizes ≡ h.slots →
    -- the writer refuses no record, and the replay accepts the log
    (log.accepted ≡ records)
    × AcceptedAs (replay (log_of log) handles sizes) (length records) (run settings h.clock own_handles own_sizes requests).queue
