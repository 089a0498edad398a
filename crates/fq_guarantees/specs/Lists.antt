-- Lists of calls on 64 flows: the record is handed on as the last call returned it, and any tables may be lent to each call.
use Rattle.std.proofs.Common.{◌∙◌}
use Rattle.std.specs.Prelude.{ℕ}
use Rattle.calls.specs.Kind.{Kind}
use Rattle.fq_rules.specs.Answer.{Answer}
use Rattle.fq_guarantees.specs.Calls.{Call, key_flow, reply}
use Rattle.fq_guarantees.specs.SixtyFour.{Record64, same_length}

-- an answer, and the flow of the key of the arrival that it answers: a departure's answer says its flow itself
pub record Answered : Type 0 where
  pub answer : Answer
  pub key_flow : ℕ

abbrev pub fq_calls : Kind
fq_calls =
    record {
      State = Record64;
      Call = Call;
      Answer = Answered;
      answer = λ s c. record { answer = (reply s.state c).answer; key_flow = key_flow s.state c };
      next = λ s c. record { state = (reply s.state c).state; sixty_four = same_length s.state c ∙ s.sixty_four };
    }
