-- Recovery for this kind: over any list of calls to a flow, from any record that is formed, with any row and any tables lent to each call,
-- as many accepted ticks in succession that each found the flow empty as `ticks_to_recover` says bring its probability to 0, where it stays
-- until a tick finds a packet queued: no packet is dropped early.
use Rattle.std.specs.Prelude.{◌≡◌, true, cond, ◌≢◌, ℕ, ◌+◌, ◌≤◌, eqb}
use mathlib.Core.List.{List, foldl}
use Rattle.units.specs.Kinds.{none}
use Rattle.pie.specs.declared.Verdict.TheVariants.{DroppedEarly}
use Rattle.refusals.specs.Answer.{Answer, departed, made, refused, ticked, verdict}
use Rattle.modem_flow.specs.declared.State.{State}
use Rattle.modem_flow.specs.State.{formed}
use Rattle.modem_guarantees.specs.Calls.{Call, Entry, arrive, flow_calls, reply, trace}
use Rattle.modem_guarantees.specs.TicksToRecover.{ticks_to_recover}

-- with n such ticks before: an accepted tick that found nothing queued is one more, one that found a packet begins the count anew, and no
-- other answer changes it
abbrev pub counted : (n : ℕ) → State → Answer → ℕ
counted n given (refused number) = n
counted n given made = n
counted n given (verdict v) = n
counted n given (departed handle size) = n
counted n given ticked = cond (eqb given.backlog.count 0) (n + 1) 0

-- accepted ticks in succession up to the last one, that each found the flow empty
abbrev pub empty_ticks : List Entry → ℕ
empty_ticks entries = foldl (λ n e. counted n e.given e.answer) 0 entries

pub record Recovered (s : State) : Type 0 where
  pub prob : s.pie.prob.0 ≡ none
  pub never-early : (row handles sizes : List ℕ) (clock handle size u : ℕ) →
      (reply s (arrive row handles sizes clock handle size u)).answer ≢ verdict DroppedEarly

abbrev pub Recovery : Type 0
Recovery =
    (start : State) (calls : List Call) → formed start ≡ true →
    ticks_to_recover start.settings.target.0 ≤ empty_ticks (trace start calls) → Recovered (foldl flow_calls.next start calls)
