-- The replay of a list of records accepts exactly if the rules, run over the recorded calls, give each recorded verdict, probability and
-- bytes. Otherwise it names the first record that disagrees, and the first field that does: verdict, probability, bytes; a call that the
-- rules refuse disagrees in its verdict (Q-10).
use Rattle.std.specs.Prelude.{◌≡◌, ◌≢◌, ℕ, length}
use mathlib.Core.List.{List, [], ◌∷◌, ◌++◌, foldl}
use Rattle.refusals.specs.Answer.{Answer}
use Rattle.ring.specs.declared.State.{State}
use Rattle.log_codec.specs.declared.Record.{Record}
use Rattle.ring.specs.Calls.{Queue, after, answer_of}
use Rattle.replay.specs.Agreement.{refusal_in, request_of, verdict_in}
use Rattle.replay.specs.Replay.{accepted, disagrees, replay_from}
use Rattle.replay.specs.Replied.{bytes_in, prob_in}

-- which field of a record disagrees with this answer and the state after the call: 0 none, 1 verdict, 2 probability, 3 bytes
pub data Field (r : Record) (a : Answer) (s : State) : ℕ → Type 0 where
  none : refusal_in a ≡ 0 → r.verdict ≡ verdict_in a → r.prob ≡ prob_in s → r.bytes ≡ bytes_in s → Field r a s 0
  refused : refusal_in a ≢ 0 → Field r a s 1
  verdict : refusal_in a ≡ 0 → r.verdict ≢ verdict_in a → Field r a s 1
  probability : refusal_in a ≡ 0 → r.verdict ≡ verdict_in a → r.prob ≢ prob_in s → Field r a s 2
  bytes : refusal_in a ≡ 0 → r.verdict ≡ verdict_in a → r.prob ≡ prob_in s → r.bytes ≢ bytes_in s → Field r a s 3

-- the queue after the call of one record, and after the calls of all
abbrev pub after_record : Queue → Record → Queue
after_record q r = after q (request_of r)

abbrev pub after_all : Queue → List Record → Queue
after_all q records = foldl after_record q records

-- the rules give each record as it stands
abbrev pub AllAgree : Queue → List Record → Type 0
AllAgree q [] = Unit
AllAgree q (r ∷ records) = Field r (answer_of q (request_of r)) (after_record q r).state 0 × AllAgree (after_record q r) records

-- the record of this number is the first that disagrees, in this field; there the rules give this answer and leave this queue
pub record FirstWrong (q : Queue) (records : List Record) (number field : ℕ) (a : Answer) (left : Queue) : Type 0 where
  pub before : List Record
  pub it : Record
  pub rest : List Record
  pub split : records ≡ before ++ it ∷ rest
  pub counted : number ≡ length before
  pub agree : AllAgree q before
  pub wrong : field ≢ 0
  pub field_is : Field it a left.state field
  pub ruled : a ≡ answer_of (after_all q before) (request_of it)
  pub leaves : left ≡ after_record (after_all q before) it

pub record Exactly (q : Queue) (records : List Record) : Type 0 where
  pub accepts : AllAgree q records → replay_from 0 q records ≡ accepted (length records) (after_all q records)
  pub only_then : (n : ℕ) (left : Queue) → replay_from 0 q records ≡ accepted n left → AllAgree q records
  pub first : (n field : ℕ) (a : Answer) (left : Queue) → replay_from 0 q records ≡ disagrees n field a left →
      FirstWrong q records n field a left

abbrev pub ExactlyIf : Type 0
ExactlyIf = (q : Queue) (records : List Record) → Exactly q records
