-- Demand 1 for this kind: any call, on any record, with any row, any tables and any numbers. It is refused exactly when one of its tests
-- holds, by the lowest number whose test holds, 10 ahead of all, and a refused call changes nothing.
use Rattle.std.specs.Prelude.{◌≡◌, Bool, true, false, ℕ, ◌≤◌, length}
use mathlib.Core.List.{List, Memᴰ}
use Rattle.refusals.specs.Answer.{made, refused}
use Rattle.modem_flow.specs.declared.Settings.{Settings}
use Rattle.modem_flow.specs.declared.State.{State}
use Rattle.modem_flow.specs.Answer.{Reply}
use Rattle.modem_flow.specs.Arrival.{arrival_refusals}
use Rattle.modem_flow.specs.Departure.{departure_refusals, head_of}
use Rattle.modem_flow.specs.Fresh.{fresh, zero_state}
use Rattle.modem_flow.specs.Refusals.{settings_refused}
use Rattle.modem_flow.specs.State.{formed}
use Rattle.modem_flow.specs.Tick.{tick_refusals}
use Rattle.modem.specs.Calls.{flow_refused, for_flow}
use Rattle.modem.specs.Counts.{counts_after}
use Rattle.modem_guarantees.specs.Calls.{Call, arrive, depart, reply, update}

-- the call's rows of the table of refusals: each number with its test
abbrev pub rows_of : State → Call → List (ℕ × Bool)
rows_of s (arrive row handles sizes clock handle size u) = arrival_refusals s row (length handles) (length sizes) clock size
rows_of s (depart row handles sizes clock) = departure_refusals s row (length handles) (length sizes) clock (head_of s sizes)
rows_of s (update row clock credits) = tick_refusals s row clock

-- the test of this number holds
abbrev pub Applies : State → Call → (number : ℕ) → Type 0
Applies s c number = Memᴰ (number, true) (rows_of s c)

pub record RefusedInOrder (s : State) (c : Call) : Type 0 where
  -- the number that is given applies, and no lower one does
  pub lowest : (n : ℕ) → (reply s c).answer ≡ refused n → Applies s c n × ((m : ℕ) → Applies s c m → n ≤ m)
  -- where a number applies, the call is refused
  pub refuses : (m : ℕ) → Applies s c m → (n : ℕ) × ((reply s c).answer ≡ refused n)
  -- a refused call returns the state that it was given
  pub unchanged : (n : ℕ) → (reply s c).answer ≡ refused n → (reply s c).state ≡ s

-- a fresh call is refused, by 1, exactly when its settings or its clock are out of range: it returns the all-zero record then, which is not
-- formed, and else a record that is
pub record FreshInOrder (settings : Settings) (clock : ℕ) : Type 0 where
  pub refuses : settings_refused settings clock ≡ true → fresh settings clock ≡ record { answer = refused 1; state = zero_state }
  pub accepts : settings_refused settings clock ≡ false → (fresh settings clock).answer ≡ made
  pub is-formed : (fresh settings clock).answer ≡ made → formed (fresh settings clock).state ≡ true
  pub zero-malformed : formed zero_state ≡ false

-- whatever the flow would reply: a flow above 15 is refused by 10, with state and counts as they were given, and any other flow's reply
-- comes back as it is, with the counts as its answer leaves them
pub record FlowFirst (flow : ℕ) (given : State) (counts : List (List ℕ)) (r : Reply) : Type 0 where
  pub above : flow_refused flow ≡ true → for_flow flow given counts r ≡ record { answer = refused 10; state = given; counts = counts }
  pub within : flow_refused flow ≡ false →
      for_flow flow given counts r ≡ record { answer = r.answer; state = r.state; counts = counts_after counts flow r.answer }
  -- a refusal leaves the counts
  pub kept : (n : ℕ) → counts_after counts flow (refused n) ≡ counts

pub record Refusals : Type 0 where
  pub calls : (s : State) (c : Call) → RefusedInOrder s c
  pub starts : (settings : Settings) (clock : ℕ) → FreshInOrder settings clock
  pub flows : (flow : ℕ) (given : State) (counts : List (List ℕ)) (r : Reply) → FlowFirst flow given counts r
