-- A list of calls, and its trace: each call is given the state that the last one returned.
use Rattle.std.specs.Prelude.{◌≡◌, Bool, cond, List, ℕ, ◌<◌}
use Rattle.pie.specs.declared.Verdict.{Verdict}
use Rattle.pie.specs.declared.Verdict.TheVariants.{Enqueued, DroppedBytes, DroppedSlots}
use Rattle.calls.specs.Kind.{Kind}
use Rattle.calls.specs.Traces as general
use Rattle.ring.specs.declared.State.{State}
use Rattle.refusals.specs.Answer.{Answer, verdict}
use Rattle.ring.specs.Arrival.{bytes_full, slots_full}
use Rattle.ring.specs.Calls.{Call, arrive, reply}

-- the ring queue's states and calls, as a kind (crate calls)
abbrev pub ring_calls : Kind
ring_calls =
    record { State = State; Call = Call; Answer = Answer; answer = λ s c. (reply s c).answer; next = λ s c. (reply s c).state }

-- one call of a list, the state that it was given, its answer, and the state that it returned: call, given, answer, returned
abbrev pub Entry : Type 0
Entry = general.Entry ring_calls

abbrev pub entry : State → Call → Entry
entry s c = general.entry ring_calls s c

abbrev pub trace : State → List Call → List Entry
trace s calls = general.trace ring_calls s calls

-- the verdict by rules 1 and 2, and enqueued where neither holds
abbrev pub limits_verdict : State → (size : ℕ) → Verdict
limits_verdict s size = cond (bytes_full s size) DroppedBytes (cond (slots_full s) DroppedSlots Enqueued)

-- if the entry is an accepted arrival, rules 1 and 2 alone decide
abbrev pub ByLimits : Entry → Type 0
ByLimits e =
    (handles sizes : List ℕ) (clock handle size : ℕ) (ecn : Bool) (u : ℕ) (v : Verdict) →
    e.call ≡ arrive handles sizes clock handle size ecn u → e.answer ≡ verdict v → v ≡ limits_verdict e.given size

-- likewise, if its clock is below `end`
abbrev pub ByLimitsBefore : (end : ℕ) → Entry → Type 0
ByLimitsBefore end e =
    (handles sizes : List ℕ) (clock handle size : ℕ) (ecn : Bool) (u : ℕ) (v : Verdict) →
    e.call ≡ arrive handles sizes clock handle size ecn u → e.answer ≡ verdict v → clock < end → v ≡ limits_verdict e.given size
