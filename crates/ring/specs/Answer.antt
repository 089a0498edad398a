-- What a call on a ring returns.
use Rattle.std.specs.Prelude.{ℕ, zero, suc}
use Rattle.refusals.specs.Answer.{Answer, accepted_answer, made, refused}
use Rattle.ring.specs.declared.Returned.{Returned}
use Rattle.ring.specs.declared.State.{State}

-- an answer and the state that is returned with it
pub record Reply : Type 0 where
  pub answer : Answer
  pub state : State

-- a refusal (a number above 0) returns the state that was given; any other call is accepted
abbrev pub unless_refused : (number : ℕ) → State → Reply → Reply
unless_refused zero given accepted = accepted
unless_refused (suc n) given accepted = record { answer = refused (suc n); state = given }

-- what a fresh state's own value says
abbrev pub fresh_reply : Returned → Reply
fresh_reply r = record { answer = accepted_answer r.accepted made; state = r.state }
