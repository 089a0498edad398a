-- A log run by the rules (Q-10): from its settings, over its records.
use Rattle.std.specs.Prelude.{cond, List, [], ◌∷◌, ℕ, zero, suc, ◌+◌, length}
use Rattle.refusals.specs.Answer.{Answer}
use Rattle.ring.specs.Fresh.{fresh_state, settings_of}
use Rattle.ring.specs.Refusals.{tables_refused}
use Rattle.ring.specs.declared.State.{State}
use Rattle.log_codec.specs.declared.Header.{Header}
use Rattle.log_codec.specs.declared.Record.{Record}
use Rattle.ring.specs.Calls.{Queue, after, answer_of}
use Rattle.call_log.specs.Answers.{Answer as LogAnswer, given, refused as log_refused}
use Rattle.call_log.specs.Whole.{Contents, read_whole}
use Rattle.replay.specs.Agreement.{disagreement, request_of}

pub data Replay : Type 0 where
  -- the log is bad (11, 12, 13), or the tables do not fit it (3)
  refused : (number : ℕ) → Replay
  -- so many records, each as the rules give it; the queue after them
  accepted : (records : ℕ) → Queue → Replay
  -- the number of the first record that disagrees, its first field that does (1 verdict, 2 probability, 3 bytes), what the rules
  -- answer there, and the queue after that call
  disagrees : (number field : ℕ) → Answer → Queue → Replay

-- the call of a record disagrees in this field; on to the next where that is 0
abbrev pub unless_disagrees : (number field : ℕ) → Answer → Queue → (next : Replay) → Replay
unless_disagrees number zero answer q next = next
unless_disagrees number (suc f) answer q next = disagrees number (suc f) answer q

-- the rules over these records, the first of which has this number
unfoldable pub replay_from : (number : ℕ) → Queue → List Record → Replay
replay_from number q [] = accepted number q
replay_from number q (r ∷ rest) =
    let answer = answer_of q (request_of r) in
    let next = after q (request_of r) in
    unless_disagrees number (disagreement r answer next.state) answer next (replay_from (number + 1) next rest)

-- a state, and the tables that are lent beside it
abbrev pub queue_of : State → (handles sizes : List ℕ) → Queue
queue_of s handles sizes = record { state = s; handles = handles; sizes = sizes }

-- a fresh queue with the log's settings and start clock
abbrev pub fresh_queue : Header → (handles sizes : List ℕ) → Queue
fresh_queue h handles sizes = queue_of (fresh_state (settings_of h.target h.buffer h.slots h.profile) h.clock) handles sizes

-- a log without faults: 3 where a table's length is not its slots, then the rules from a fresh queue
abbrev pub replay_contents : Contents → (handles sizes : List ℕ) → Replay
replay_contents c handles sizes =
    let q = fresh_queue c.header handles sizes in
    cond (tables_refused q.state (length handles) (length sizes)) (refused 3)
    (replay_from 0 q c.records)

-- 11, 12 or 13 where the log, read whole, is refused
abbrev pub replay_read : LogAnswer Contents → (handles sizes : List ℕ) → Replay
replay_read (log_refused number) handles sizes = refused number
replay_read (given contents) handles sizes = replay_contents contents handles sizes

-- the replay of a log over these tables
unfoldable pub replay : (log handles sizes : List ℕ) → Replay
replay log handles sizes = replay_read (read_whole log) handles sizes
