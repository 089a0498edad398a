-- What a call of any kind of queue answers, in document 01's numbers and values.
use Rattle.std.specs.Prelude.{Bool, false, cond, ℕ, Result, Ok, Err, ⊤}
use Rattle.pie.specs.declared.Verdict.{Verdict}
use Rattle.pie.specs.Verdicts.{admitted}
use Rattle.refusals.specs.Numbers.{number_of}
use Rattle.refusals.specs.declared.Packet.{Packet}
use Rattle.refusals.specs.declared.Refusal.{Refusal}

pub data Answer : Type 0 where
  -- any call, with the number
  refused : (number : ℕ) → Answer
  -- fresh
  made : Answer
  -- an arrival
  verdict : Verdict → Answer
  -- a departure
  departed : (handle size : ℕ) → Answer
  -- a tick
  ticked : Answer

-- whether the answer puts a packet at the tail
abbrev pub admits : Answer → Bool
admits (refused n) = false
admits made = false
admits (verdict v) = admitted v
admits (departed handle size) = false
admits ticked = false

-- the handle and the size that a departure returns: 0 where it is refused
abbrev pub handle_in : Answer → ℕ
handle_in (refused n) = 0
handle_in made = 0
handle_in (verdict v) = 0
handle_in (departed handle size) = handle
handle_in ticked = 0

abbrev pub size_in : Answer → ℕ
size_in (refused n) = 0
size_in made = 0
size_in (verdict v) = 0
size_in (departed handle size) = size
size_in ticked = 0

-- ── what the library's own values say ──

-- an answer by what an accepted call of its kind answers
abbrev pub answer_by : {T : Type 0} → (T → Answer) → Result T Refusal → Answer
answer_by accepted (Ok x) = accepted x
answer_by accepted (Err r) = refused (number_of r)

-- an answer that is `accepted` unless it is a refusal
abbrev pub accepted_answer : Result ⊤ Refusal → (accepted : Answer) → Answer
accepted_answer r accepted = answer_by (λ x. accepted) r

abbrev pub arrival_answer : Result Verdict Refusal → Answer
arrival_answer r = answer_by verdict r

abbrev pub departure_answer : Result Packet Refusal → Answer
departure_answer r = answer_by (λ p. departed p.handle p.size) r

-- a test's answer: a refusal where it holds
abbrev pub refused_where : (test : Bool) → Refusal → Result ⊤ Refusal
refused_where test r = cond test (Err r) (Ok tt)
