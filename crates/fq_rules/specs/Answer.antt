-- What a call on 64 flows answers and returns.
use Rattle.std.specs.Prelude.{Bool, true, false, ℕ, zero, suc, Result, Ok, Err, ⊤}
use Rattle.pie.specs.declared.Verdict.{Verdict}
use Rattle.pie.specs.Verdicts.{admitted}
use Rattle.refusals.specs.Numbers.{number_of}
use Rattle.refusals.specs.declared.Refusal.{Refusal}
use Rattle.fq_state.specs.State.{State}
use Rattle.fq_rules.specs.declared.Served.{Served}

pub data Answer : Type 0 where
  -- any call, with the number
  refused : (number : ℕ) → Answer
  -- an arrival
  verdict : Verdict → Answer
  -- a departure: the flow that was served, and the packet
  departed : (flow handle size : ℕ) → Answer
  -- a tick
  ticked : Answer

-- an answer and the record that is returned with it
pub record Reply : Type 0 where
  pub answer : Answer
  pub state : State

-- a refusal (a number above 0) returns the record that was given; any other call is accepted
abbrev pub unless_refused : (number : ℕ) → State → Reply → Reply
unless_refused zero given accepted = accepted
unless_refused (suc n) given accepted = record { answer = refused (suc n); state = given }

-- whether the answer puts a packet at a tail, and whether it takes one from a head
abbrev pub admits : Answer → Bool
admits (refused n) = false
admits (verdict v) = admitted v
admits (departed flow handle size) = false
admits ticked = false

abbrev pub departs : Answer → Bool
departs (refused n) = false
departs (verdict v) = false
departs (departed flow handle size) = true
departs ticked = false

-- the flow, the handle and the size that a departure returns: 0 where it is refused
abbrev pub flow_in : Answer → ℕ
flow_in (refused n) = 0
flow_in (verdict v) = 0
flow_in (departed flow handle size) = flow
flow_in ticked = 0

abbrev pub handle_in : Answer → ℕ
handle_in (refused n) = 0
handle_in (verdict v) = 0
handle_in (departed flow handle size) = handle
handle_in ticked = 0

abbrev pub size_in : Answer → ℕ
size_in (refused n) = 0
size_in (verdict v) = 0
size_in (departed flow handle size) = size
size_in ticked = 0

-- ── what the library's own values say ──

-- an answer by what an accepted call of its kind answers
abbrev pub answer_by : {T : Type 0} → (T → Answer) → Result T Refusal → Answer
answer_by accepted (Ok x) = accepted x
answer_by accepted (Err r) = refused (number_of r)

-- an answer that is `accepted` unless it is a refusal
abbrev pub accepted_answer : Result ⊤ Refusal → (accepted : Answer) → Answer
accepted_answer r accepted = answer_by (λ x. accepted) r

abbrev pub arrival_answer : Result Verdict Refusal → Answer
arrival_answer r = answer_by verdict r

abbrev pub departure_answer : Result Served Refusal → Answer
departure_answer r = answer_by (λ s. departed s.flow s.packet.handle s.packet.size) r
