-- What the single entries do with a call on a ring, and its bursts.
use Rattle.bursts.specs.Kind.{BurstKind}
use Rattle.refusals.specs.Answer.{Answer, refused}
use Rattle.bursts.specs.Answers.{answer_word}
use Rattle.ring_words.specs.Lent.{Lent, leaves, reply_to}
use Rattle.ring_burst.specs.Calls.{Call, asked, call_at, unknown}

-- the answer to a call; no entry takes an unknown one: refusal 20
abbrev pub answer_to : Lent → Call → Answer
answer_to q (asked r) = (reply_to q r).answer
answer_to q unknown = refused 20

-- what is left: the words and tables that the single entry leaves
abbrev pub after : Lent → Call → Lent
after q (asked r) = leaves q r
after q unknown = q

-- six numbers for each call
abbrev pub ring_bursts : BurstKind
ring_bursts =
    record {
      kind = record { State = Lent; Call = Call; Answer = Answer; answer = answer_to; next = after };
      word = answer_word;
      numbers = 6;
      call_at = call_at;
    }
