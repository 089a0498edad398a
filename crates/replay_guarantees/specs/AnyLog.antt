-- What a replay answers to any bytes and any tables (Q-10): 11, 12 or 13 of the log, read whole; else 3 where a table's length is not the
-- settings' slots; else what the rules, from a fresh queue with the settings and start clock, say of its records.
use Rattle.std.specs.Prelude.{◌≡◌, Bool, true, false, not, ◌&&◌, ◌↔◌, List, ℕ, eqb, length}
use Rattle.call_log.specs.Faults.{header_refused}
use Rattle.call_log.specs.Layout.{header_in, records_in}
use Rattle.call_log.specs.Reader.{trailer_refused}
use Rattle.call_log.specs.Whole.{any_faulty}
use Rattle.replay.specs.Replay.{Replay, accepted, disagrees, fresh_queue, refused, replay}
use Rattle.replay_guarantees.specs.EachAnswer.{Grounds}

-- either table's length is not the slots
abbrev pub misfit : (slots handles_length sizes_length : ℕ) → Bool
misfit slots handles_length sizes_length = not (eqb handles_length slots && eqb sizes_length slots)

-- the log reads whole
pub record Reads (log : List ℕ) : Type 0 where
  pub trailer : trailer_refused log ≡ false
  pub settings : header_refused (header_in log) ≡ false
  pub records : any_faulty (records_in log) ≡ false

-- which number is given
pub data RefusedBy (log handles sizes : List ℕ) : ℕ → Type 0 where
  trailer : trailer_refused log ≡ true → RefusedBy log handles sizes 11
  settings : trailer_refused log ≡ false → header_refused (header_in log) ≡ true → RefusedBy log handles sizes 12
  fault : trailer_refused log ≡ false → header_refused (header_in log) ≡ false → any_faulty (records_in log) ≡ true →
      RefusedBy log handles sizes 13
  tables : Reads log → misfit (header_in log).slots (length handles) (length sizes) ≡ true → RefusedBy log handles sizes 3

-- the log reads whole, and the tables fit it
pub record Fits (log handles sizes : List ℕ) : Type 0 where
  pub reads : Reads log
  pub fit : misfit (header_in log).slots (length handles) (length sizes) ≡ false

-- the rules on the log's records, from a fresh queue
abbrev pub RulesGrounds : (log handles sizes : List ℕ) → Replay → Type 0
RulesGrounds log handles sizes answer = Fits log handles sizes × Grounds (fresh_queue (header_in log) handles sizes) (records_in log) answer

-- what is so of the log and the tables, for each answer
abbrev pub LogGrounds : (log handles sizes : List ℕ) → Replay → Type 0
LogGrounds log handles sizes (refused number) = RefusedBy log handles sizes number
LogGrounds log handles sizes (accepted n left) = RulesGrounds log handles sizes (accepted n left)
LogGrounds log handles sizes (disagrees number field a left) = RulesGrounds log handles sizes (disagrees number field a left)

-- each answer is given exactly on its ground
abbrev pub AnyLog : Type 0
AnyLog = (log handles sizes : List ℕ) (answer : Replay) → (replay log handles sizes ≡ answer) ↔ LogGrounds log handles sizes answer
