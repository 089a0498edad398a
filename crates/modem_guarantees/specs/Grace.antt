-- Grace for this kind: after an early drop that made a flow active at clock T, each accepted arrival of that flow with a clock below
-- T + 128,000 is answered by rules 1 and 2, or enqueued, whatever ticks were tried or accepted in between. Over any list of calls from any
-- record, with any row and any tables lent to each call; no fresh call stands between, since the list has none.
use Rattle.std.specs.Prelude.{◌≡◌, ◌≢◌, ℕ, ◌+◌}
use mathlib.Core.List.{List, ◌∷◌, ◌++◌, Memᴰ}
use Rattle.pie.specs.declared.Verdict.TheVariants.{DroppedEarly}
use Rattle.refusals.specs.Answer.{verdict}
use Rattle.docsis_pie.specs.Constants.{active, full_allowance}
use Rattle.modem_flow.specs.declared.State.{State}
use Rattle.modem_guarantees.specs.Calls.{ByLimitsBefore, Call, Entry, arrive, trace}

-- how long a full allowance protects a flow, whenever its ticks come: eight periods, for only the ninth tick leaves 0
abbrev pub grace : ℕ
grace = 128000

abbrev pub Grace : Type 0
Grace =
    (start : State) (calls : List Call) (before : List Entry) (e : Entry) (later : List Entry)
    (row handles sizes : List ℕ) (t handle size u : ℕ) →
    trace start calls ≡ before ++ e ∷ later →
    e.call ≡ arrive row handles sizes t handle size u → e.answer ≡ verdict DroppedEarly → e.given.pie.phase.activity.0 ≢ active →
    (e.returned.pie.phase.activity.0 ≡ active)
    × (e.returned.pie.allowance.0 ≡ full_allowance)
    × ((a : Entry) → Memᴰ a later → ByLimitsBefore (t + grace) a)
