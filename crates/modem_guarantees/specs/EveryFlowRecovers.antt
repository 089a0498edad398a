-- Recovery of each of a modem's flows: any list of calls to any of its flows in any order, fresh calls among them, from any modem. For each
-- flow whose record is then formed, as many of its own accepted ticks in succession that each found it empty as `ticks_to_recover` says of
-- its target bring its probability to 0, whatever the others are asked.
use Rattle.std.specs.Prelude.{◌≡◌, true, cond, ℕ, ◌≤◌, eqb, length}
use mathlib.Core.List.{List, foldl}
use Rattle.calls.specs.Traces.{Entry, trace}
use Rattle.refusals.specs.Answer.{Answer}
use Rattle.modem_flow.specs.declared.State.{State}
use Rattle.modem_flow.specs.State.{formed}
use Rattle.modem.specs.Asked.{Asked, ask, start}
use Rattle.modem_guarantees.specs.Modem.{Call, Modem, modem}
use Rattle.modem_guarantees.specs.Recovery.{Recovered, counted}
use Rattle.modem_guarantees.specs.TicksToRecover.{ticks_to_recover}

-- with n such ticks before: a fresh call, which may give another target, begins the count anew
abbrev pub counted_of : (n : ℕ) → State → Asked → Answer → ℕ
counted_of n given (start settings clock) a = 0
counted_of n given (ask r) a = counted n given a

-- a flow's own calls alone are counted
abbrev pub ticks_of : (flow : ℕ) → (n : ℕ) → Entry modem → ℕ
ticks_of flow n e = cond (eqb flow e.call.flow) (counted_of n (e.given.flows flow).state e.call.asked e.answer) n

-- the flow's accepted ticks in succession up to its last one, that each found it empty
abbrev pub empty_ticks_of : (flow : ℕ) → List (Entry modem) → ℕ
empty_ticks_of flow entries = foldl (ticks_of flow) 0 entries

abbrev pub EveryFlowRecovers : Type 0
EveryFlowRecovers =
    (m : Modem) (calls : List Call) → length m.counts ≡ 16 → (flow : ℕ) → flow ≤ 15 →
    let s = ((foldl modem.next m calls).flows flow).state in
    formed s ≡ true → ticks_to_recover s.settings.target.0 ≤ empty_ticks_of flow (trace modem m calls) → Recovered s
