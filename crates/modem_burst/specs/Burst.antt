-- What the single entries do with a call on one flow, and the flow's bursts.
use Rattle.std.specs.Prelude.{ℕ}
use Rattle.bursts.specs.Answers.{answer_word}
use Rattle.bursts.specs.Kind.{BurstKind}
use Rattle.refusals.specs.Answer.{Answer, refused}
use Rattle.modem.specs.Asked.{ask}
use Rattle.modem_words.specs.Lent.{Lent, leaves, reply_to}
use Rattle.modem_burst.specs.Calls.{Call, asked, call_at, unknown}

-- the answer to a call; no entry takes an unknown one: refusal 20
abbrev pub answer_to : (flow : ℕ) → Lent → Call → Answer
answer_to flow q (asked r) = (reply_to flow q (ask r)).answer
answer_to flow q unknown = refused 20

-- what is left: what the single entry leaves
abbrev pub after : (flow : ℕ) → Lent → Call → Lent
after flow q (asked r) = leaves flow q (ask r)
after flow q unknown = q

-- six numbers for each call
abbrev pub flow_bursts : (flow : ℕ) → BurstKind
flow_bursts flow =
    record {
      kind = record { State = Lent; Call = Call; Answer = Answer; answer = answer_to flow; next = after flow };
      word = answer_word;
      numbers = 6;
      call_at = call_at;
    }

-- the same of every flow: its number stands beside what is lent
abbrev pub modem_bursts : BurstKind
modem_bursts =
    record {
      kind =
          record {
            State = ℕ × Lent;
            Call = Call;
            Answer = Answer;
            answer = λ q c. answer_to q.0 q.1 c;
            next = λ q c. (q.0, after q.0 q.1 c);
          };
      word = answer_word;
      numbers = 6;
      call_at = call_at;
    }
