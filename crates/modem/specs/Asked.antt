-- What a flow is asked, and what its call returns: states, tables and counts are handed back untouched.
use Rattle.std.specs.Prelude.{List, ℕ}
use Rattle.modem_flow.specs.Arrival.{stored}
use Rattle.modem_flow.specs.declared.Settings.{Settings}
use Rattle.modem_flow.specs.declared.State.{State}
use Rattle.modem.specs.Answer.{ModemReply}
use Rattle.modem.specs.Calls.{arrival, departure, fresh, tick}

-- the state of a flow, and its tables
pub record Flow : Type 0 where
  pub state : State
  pub handles : List ℕ
  pub sizes : List ℕ

-- a call as it is asked for: the flow's own row and tables are lent to it
pub data Request : Type 0 where
  ask_arrival : (clock handle size u : ℕ) → Request
  ask_departure : (clock : ℕ) → Request
  ask_tick : (clock credits : ℕ) → Request

-- what a flow is asked: to begin afresh, or anything else
pub data Asked : Type 0 where
  start : Settings → (clock : ℕ) → Asked
  ask : Request → Asked

abbrev pub modem_reply : Flow → (counts : List (List ℕ)) (flow : ℕ) → Asked → ModemReply
modem_reply f counts flow (start settings clock) = fresh counts flow settings clock
modem_reply f counts flow (ask (ask_arrival clock handle size u)) = arrival f.state counts flow f.handles f.sizes clock size u
modem_reply f counts flow (ask (ask_departure clock)) = departure f.state counts flow f.handles f.sizes clock
modem_reply f counts flow (ask (ask_tick clock credits)) = tick f.state counts flow clock credits

-- the flow that is returned: an admitted arrival writes to its tables
abbrev pub flow_after : Flow → Asked → ModemReply → Flow
flow_after f (start settings clock) r = record { state = r.state; handles = f.handles; sizes = f.sizes }
flow_after f (ask (ask_arrival clock handle size u)) r =
    record {
      state = r.state;
      handles = stored f.state r.answer f.handles handle;
      sizes = stored f.state r.answer f.sizes size;
    }
flow_after f (ask (ask_departure clock)) r = record { state = r.state; handles = f.handles; sizes = f.sizes }
flow_after f (ask (ask_tick clock credits)) r = record { state = r.state; handles = f.handles; sizes = f.sizes }
