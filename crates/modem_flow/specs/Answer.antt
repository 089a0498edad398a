-- What a call answers and returns, in the numbers and values of docs/DOCSIS-PIE.md; answers are the ring's.
use Rattle.std.specs.Prelude.{ℕ, zero, suc}
use Rattle.refusals.specs.Answer.{Answer, refused}
use Rattle.modem_flow.specs.declared.State.{State}

-- an answer and the state that is returned with it
pub record Reply : Type 0 where
  pub answer : Answer
  pub state : State

-- a refusal (a number above 0) returns the state that was given; any other call is accepted
abbrev pub unless_refused : (number : ℕ) → State → Reply → Reply
unless_refused zero given accepted = accepted
unless_refused (suc n) given accepted = record { answer = refused (suc n); state = given }
