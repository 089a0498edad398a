-- A log that fills up: whatever room the writer has, it keeps a beginning of a fresh queue's accepted calls, as many as there is room for, and
-- that log is accepted, whatever the tables that are lent to the replay held (Q-1, Q-10).
use Rattle.std.specs.Prelude.{◌≡◌, List, ◌++◌, ℕ, ◌+◌, ◌-◌, ◌/◌, min, length, take}
use Rattle.ring.specs.Fresh.{settings_of}
use Rattle.ring.specs.declared.Settings.{Settings}
use Rattle.log_codec.specs.declared.Header.{Header}
use Rattle.log_codec.specs.declared.Record.{Record}
use Rattle.ring_guarantees.specs.Handed.{begin, run}
use Rattle.calls.specs.Requests.{Request}
use Rattle.call_log.specs.Writer.{begin as begin_log}
use Rattle.log_guarantees.specs.Run.{log_of, run as write}
use Rattle.replay.specs.Replay.{Replay, replay}
use Rattle.replay_guarantees.specs.AlwaysAccepted.{AcceptedAs}
use Rattle.replay_guarantees.specs.Recorded.{AllFit, recorded}

-- how many records there is room for, beside settings, note and trailer
abbrev pub room : (note_length bytes_length : ℕ) → ℕ
room note_length bytes_length = min 100000 ((bytes_length - (48 + note_length)) / 40)

abbrev pub settings_in : Header → Settings
settings_in h = settings_of h.target h.buffer h.slots h.profile

-- the records of the first calls, `made`, accepted by a replay that ends in the queue's state after them, with the same packets queued
pub record Beginning (h : Header) (own_handles own_sizes : List ℕ) (requests : List Request) (kept : List Record) (R : Replay) : Type 0 where
  pub made : List Request
  pub others : List Request
  pub split : requests ≡ made ++ others
  pub records : kept ≡ recorded (begin (settings_in h) h.clock own_handles own_sizes).queue made
  pub accepts : AcceptedAs R (length kept) (run (settings_in h) h.clock own_handles own_sizes made).queue

abbrev pub AnyRoom : Type 0
AnyRoom =
    (h : Header) (note bytes : List ℕ) (own_handles own_sizes : List ℕ) (requests : List Request) →
    let records = recorded (begin (settings_in h) h.clock own_handles own_sizes).queue requests in
    -- the writer accepts settings and note; the records may be more than it has room for
    AllFit requests → (begin_log h note bytes).refusal ≡ 0 →
    let log = write h note bytes records in
    let kept = take (room (length note) (length bytes)) records in
    -- any tables of the settings' slots
    (handles sizes : List ℕ) → length handles ≡ h.slots → length sizes ≡ h.slots →
    (log.accepted ≡ kept) × Beginning h own_handles own_sizes requests kept (replay (log_of log) handles sizes)
