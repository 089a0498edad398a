-- A list of calls to one flow, and its trace: each call is given the state that the last one returned.
use Rattle.std.specs.Prelude.{◌≡◌, cond, List, ℕ, ◌<◌}
use Rattle.pie.specs.declared.Verdict.{Verdict}
use Rattle.pie.specs.declared.Verdict.TheVariants.{Enqueued, DroppedBytes, DroppedSlots}
use Rattle.calls.specs.Kind.{Kind}
use Rattle.calls.specs.Traces as general
use Rattle.refusals.specs.Answer.{Answer, verdict}
use Rattle.modem_flow.specs.declared.State.{State}
use Rattle.modem_flow.specs.Answer.{Reply}
use Rattle.modem_flow.specs.Arrival.{arrival, bytes_full, slots_full}
use Rattle.modem_flow.specs.Departure.{departure}
use Rattle.modem_flow.specs.Tick.{tick}

-- a call with its arguments, and the row of counts and the tables that are lent to it
pub data Call : Type 0 where
  arrive : (row handles sizes : List ℕ) (clock handle size u : ℕ) → Call
  depart : (row handles sizes : List ℕ) (clock : ℕ) → Call
  update : (row : List ℕ) (clock credits : ℕ) → Call

abbrev pub reply : State → Call → Reply
reply s (arrive row handles sizes clock handle size u) = arrival s row handles sizes clock size u
reply s (depart row handles sizes clock) = departure s row handles sizes clock
reply s (update row clock credits) = tick s row clock credits

-- a flow's states and calls, as a kind (crate calls)
abbrev pub flow_calls : Kind
flow_calls =
    record { State = State; Call = Call; Answer = Answer; answer = λ s c. (reply s c).answer; next = λ s c. (reply s c).state }

-- one call of a list, the state that it was given, its answer, and the state that it returned
abbrev pub Entry : Type 0
Entry = general.Entry flow_calls

abbrev pub trace : State → List Call → List Entry
trace s calls = general.trace flow_calls s calls

-- the verdict by rules 1 and 2, and enqueued where neither holds
abbrev pub limits_verdict : State → (size : ℕ) → Verdict
limits_verdict s size = cond (bytes_full s size) DroppedBytes (cond (slots_full s) DroppedSlots Enqueued)

-- if the entry is an accepted arrival with a clock below `end`, rules 1 and 2 alone decide
abbrev pub ByLimitsBefore : (end : ℕ) → Entry → Type 0
ByLimitsBefore end e =
    (row handles sizes : List ℕ) (clock handle size u : ℕ) (v : Verdict) →
    e.call ≡ arrive row handles sizes clock handle size u → e.answer ≡ verdict v → clock < end → v ≡ limits_verdict e.given size
