-- A log that 13 refuses, read in turn: settings and note are read, the records before the first that is faulty are handed out, in order, and
-- there the answer is 13, again and again.
use Rattle.std.specs.Prelude.{◌≡◌, true, false, List, [], ◌∷◌, ◌++◌, ℕ, zero, suc, ◌+◌, length}
use Rattle.log_codec.specs.declared.Record.{Record}
use Rattle.call_log.specs.Answers.{Answer, Turn, given, refused}
use Rattle.call_log.specs.Faults.{faulty}
use Rattle.call_log.specs.Layout.{header_in, note_in, records_in}
use Rattle.call_log.specs.Reader.{note_of, settings_of}
use Rattle.call_log.specs.Whole.{any_faulty, read_whole}
use Rattle.log_guarantees.specs.InTurn.{answers, each_handed}

-- 13, n times
abbrev pub faults : (n : ℕ) → List (Answer Turn)
faults zero = []
faults (suc n) = refused 13 ∷ faults n

pub record Faulty (log : List ℕ) : Type 0 where
  -- the first record that is faulty
  pub before : List Record
  pub it : Record
  pub rest : List Record
  pub split : records_in log ≡ before ++ it ∷ rest
  pub faultless : any_faulty before ≡ false
  pub fault : faulty it ≡ true
  pub settings : settings_of log ≡ given (header_in log)
  pub noted : note_of log ≡ given (note_in log)
  -- from the first record on, and however many calls follow
  pub in_order : (more : ℕ) → answers (length before + more) log 0 ≡ each_handed before 0 ++ faults more

abbrev pub FaultAt : Type 0
FaultAt = (log : List ℕ) → read_whole log ≡ refused 13 → Faulty log
