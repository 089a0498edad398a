-- What a call on two queues answers and returns. The answers are the ring queue's (crate ring).
use Rattle.std.specs.Prelude.{Bool, true, false, ℕ, zero, suc}
use Rattle.refusals.specs.Answer.{Answer, accepted_answer, departed, made, refused, ticked, verdict}
use Rattle.pair_rules.specs.declared.Made.{Made}
use Rattle.pair_rules.specs.declared.Pair.{Pair}

-- an answer and the three records that are returned with it
pub record Reply : Type 0 where
  pub answer : Answer
  pub pair : Pair

-- a refusal (a number above 0) returns the records that were given; any other call is accepted
abbrev pub unless_refused : (number : ℕ) → Pair → Reply → Reply
unless_refused zero given accepted = accepted
unless_refused (suc n) given accepted = record { answer = refused (suc n); pair = given }

-- whether the answer takes a packet from the head
abbrev pub departs : Answer → Bool
departs (refused n) = false
departs made = false
departs (verdict v) = false
departs (departed handle size) = true
departs ticked = false

-- ── what `fresh`'s own values say ──

abbrev pub fresh_reply : Made → Reply
fresh_reply r = record { answer = accepted_answer r.accepted made; pair = r.pair }
