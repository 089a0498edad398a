-- What a call returns: the answer, the flow's state, and the counts of all sixteen flows.
use Rattle.std.specs.Prelude.{List, ℕ, Result, Ok, Err, ⊤}
use Rattle.pie.specs.declared.Verdict.{Verdict}
use Rattle.refusals.specs.Answer.{Answer, departed, refused, verdict}
use Rattle.refusals.specs.Numbers as one-flow
use Rattle.refusals.specs.declared.Packet.{Packet}
use Rattle.modem_flow.specs.declared.State.{State}
use Rattle.modem.specs.declared.FlowRefusal.{FlowRefusal}
use Rattle.modem.specs.declared.FlowRefusal.TheVariants.{NoFlow, Call}

pub record ModemReply : Type 0 where
  pub answer : Answer
  pub state : State
  pub counts : List (List ℕ)

-- ── what the library's own values say ──

-- the number of a refusal
abbrev pub number_of : FlowRefusal → ℕ
number_of NoFlow = 10
number_of (Call r) = one-flow.number_of r

-- an answer by what an accepted call of its kind answers
abbrev pub answer_by : {T : Type 0} → (T → Answer) → Result T FlowRefusal → Answer
answer_by accepted (Ok x) = accepted x
answer_by accepted (Err r) = refused (number_of r)

-- an answer that is `accepted` unless it is a refusal
abbrev pub accepted_answer : Result ⊤ FlowRefusal → (accepted : Answer) → Answer
accepted_answer r accepted = answer_by (λ x. accepted) r

abbrev pub arrival_answer : Result Verdict FlowRefusal → Answer
arrival_answer r = answer_by verdict r

abbrev pub departure_answer : Result Packet FlowRefusal → Answer
departure_answer r = answer_by (λ p. departed p.handle p.size) r
