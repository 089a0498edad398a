-- What a record says of its call, held against what the rules give (Q-10).
use Rattle.std.specs.Prelude.{Bool, cond, not, List, [], ◌∷◌, ℕ, eqb}
use Rattle.pie.specs.Verdicts.{place_of}
use Rattle.refusals.specs.Answer.{Answer, departed, made, refused, ticked, verdict}
use Rattle.refusals.specs.Rows.{first_refusal}
use Rattle.ring.specs.declared.State.{State}
use Rattle.log_codec.specs.declared.Record.{Record}
use Rattle.calls.specs.Requests.{Request, ask_arrival, ask_departure, ask_tick}
use Rattle.call_log.specs.Faults.{arrival, departure}

-- the call that a record holds, by its kind: arrival, departure, else tick
abbrev pub request_of : Record → Request
request_of r =
    cond (arrival r) (ask_arrival r.clock r.handle r.size (eqb r.ecn 1) r.u)
    (cond (departure r) (ask_departure r.clock)
    (ask_tick r.clock))

-- the number of the rules' refusal, and 0 where they accept the call
abbrev pub refusal_in : Answer → ℕ
refusal_in (refused number) = number
refusal_in made = 0
refusal_in (verdict v) = 0
refusal_in (departed handle size) = 0
refusal_in ticked = 0

-- what a record of this answer holds as its verdict: an arrival's verdict by its number, a departure's handle, else 0
abbrev pub verdict_in : Answer → ℕ
verdict_in (refused number) = 0
verdict_in made = 0
verdict_in (verdict v) = place_of v
verdict_in (departed handle size) = handle
verdict_in ticked = 0

-- the fields that can disagree, in order: 1 verdict, 2 probability, 3 bytes. A call that the rules refuse disagrees in its verdict
abbrev pub disagreements : Record → (refusal answer prob bytes : ℕ) → List (ℕ × Bool)
disagreements r refusal answer prob bytes =
    (1, not (eqb refusal 0))
    ∷ (1, not (eqb r.verdict answer))
    ∷ (2, not (eqb r.prob prob))
    ∷ (3, not (eqb r.bytes bytes))
    ∷ []

-- the first that does, and 0 where the record agrees with this answer and the state after the call
unfoldable pub disagreement : Record → Answer → State → ℕ
disagreement r answer s =
    first_refusal (disagreements r (refusal_in answer) (verdict_in answer) s.pie.prob.0 s.backlog.bytes.0)
