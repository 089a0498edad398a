-- A record that is formed has its probabilities in bounds, and every call keeps it formed.
use mathlib.Core.Path.{◌≡◌}
use mathlib.Core.Bool.{true}
use Rattle.calls.proofs.Traces.{along}
use Rattle.docsis_pie.proofs.Ranges.{scaled-le}
use Rattle.modem_flow.specs.declared.State.{State}
use Rattle.modem_flow.specs.State.{formed}
use Rattle.modem_flow.proofs.Facts.{facts}
use Rattle.modem_guarantees.specs.Bounds.{Bounded, Bounds}
use Rattle.modem_guarantees.specs.Calls.{Entry, flow_calls, reply}
use Rattle.modem_guarantees.proofs.Replies.{reply-formed}

bounded : (s : State) → formed s ≡ true → Bounded s
bounded s w =
    let f = facts s w in
    record { stored = f.prob-high; accumulated = f.accumulated-high; scaled = λ size. scaled-le s.pie.prob.0 size }

pub bounds : Bounds
bounds start calls w =
    along flow_calls (λ s. formed s ≡ true) (λ e. Bounded e.given × Bounded e.returned)
    (λ s p c. reply-formed s p c)
    (λ s p c. (bounded s p, bounded (reply s c).state (reply-formed s p c)))
    start calls w
