-- The four calls of a modem (docs/DOCSIS-PIE.md, part 3): refusal 10 ahead of the others, then what the flow gives with its row.
use Rattle.std.specs.Prelude.{Bool, cond, List, ℕ, ltb}
use Rattle.refusals.specs.Answer.{refused}
use Rattle.modem_flow.specs.Answer.{Reply}
use Rattle.modem_flow.specs.Arrival as flow-arrival
use Rattle.modem_flow.specs.Departure as flow-departure
use Rattle.modem_flow.specs.Fresh as flow-fresh
use Rattle.modem_flow.specs.Tick as flow-tick
use Rattle.modem_flow.specs.declared.Settings.{Settings}
use Rattle.modem_flow.specs.declared.State.{State}
use Rattle.modem.specs.Answer.{ModemReply}
use Rattle.modem.specs.Counts.{counts_after, row_of}

-- 10: the flow is above 15
abbrev pub flow_refused : (flow : ℕ) → Bool
flow_refused flow = ltb 15 flow

-- 10 returns the state and the counts that were given; any other call is the flow's, and the counts are as its answer leaves them
unfoldable pub for_flow : (flow : ℕ) → State → (counts : List (List ℕ)) → Reply → ModemReply
for_flow flow given counts r =
    cond (flow_refused flow) (record { answer = refused 10; state = given; counts = counts })
    (record { answer = r.answer; state = r.state; counts = counts_after counts flow r.answer })

-- a refused fresh call returns the all-zero record
unfoldable pub fresh : (counts : List (List ℕ)) (flow : ℕ) → Settings → (clock : ℕ) → ModemReply
fresh counts flow settings clock = for_flow flow flow-fresh.zero_state counts (flow-fresh.fresh settings clock)

unfoldable pub arrival : State → (counts : List (List ℕ)) (flow : ℕ) (handles sizes : List ℕ) (clock size u : ℕ) → ModemReply
arrival s counts flow handles sizes clock size u =
    for_flow flow s counts (flow-arrival.arrival s (row_of counts flow) handles sizes clock size u)

unfoldable pub departure : State → (counts : List (List ℕ)) (flow : ℕ) (handles sizes : List ℕ) (clock : ℕ) → ModemReply
departure s counts flow handles sizes clock = for_flow flow s counts (flow-departure.departure s (row_of counts flow) handles sizes clock)

unfoldable pub tick : State → (counts : List (List ℕ)) (flow clock credits : ℕ) → ModemReply
tick s counts flow clock credits = for_flow flow s counts (flow-tick.tick s (row_of counts flow) clock credits)
