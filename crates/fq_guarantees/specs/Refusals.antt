-- Demand 1 for 64 flows: any call with any record, any tables, any key and any numbers. It is refused exactly when one of its tests holds,
-- by the lowest number whose test holds, and a refused call changes nothing: not the record, neither table.
use Rattle.std.specs.Prelude.{◌≡◌, Bool, true, false, ℕ, ◌≤◌, length}
use mathlib.Core.List.{List, Memᴰ}
use Rattle.fq_state.specs.Fresh.{fresh, fresh_refusal, setup_refused, zero_state}
use Rattle.fq_state.specs.State.{State}
use Rattle.fq_state.specs.WellFormed.{well_formed}
use Rattle.fq_state.specs.declared.Settings.{Settings}
use Rattle.fq_rules.specs.Answer.{Answer, refused}
use Rattle.fq_rules.specs.Arrival.{arrival_refusals, arrived_handles, arrived_sizes}
use Rattle.fq_rules.specs.Departure.{departed_sizes, departure_refusals}
use Rattle.fq_rules.specs.Tick.{tick_refusals}
use Rattle.fq_guarantees.specs.Calls.{Call, arrive, depart, reply, update}

-- the call's rows of the table of refusals: each number with its test
abbrev pub rows_of : State → Call → List (ℕ × Bool)
rows_of s (arrive handles sizes clock key handle size ecn u) = arrival_refusals s (length handles) sizes clock key size ecn u
rows_of s (depart handles sizes clock) = departure_refusals s (length handles) sizes clock
rows_of s (update clock) = tick_refusals s clock

-- the test of this number holds
abbrev pub Applies : State → Call → (number : ℕ) → Type 0
Applies s c number = Memᴰ (number, true) (rows_of s c)

-- both tables after a call that was so answered are those that it was lent: a tick is lent none, a departure writes to no handle
abbrev pub TablesKept : State → Call → Answer → Type 0
TablesKept s (arrive handles sizes clock key handle size ecn u) a =
    (arrived_handles s a handles handle ≡ handles) × (arrived_sizes s a sizes key size ≡ sizes)
TablesKept s (depart handles sizes clock) a = departed_sizes s a sizes ≡ sizes
TablesKept s (update clock) a = Unit {0}

pub record RefusedInOrder (s : State) (c : Call) : Type 0 where
  -- the number that is given applies, and no lower one does
  pub lowest : (n : ℕ) → (reply s c).answer ≡ refused n → Applies s c n × ((m : ℕ) → Applies s c m → n ≤ m)
  -- where a number applies, the call is refused
  pub refuses : (m : ℕ) → Applies s c m → (n : ℕ) × ((reply s c).answer ≡ refused n)
  -- a refused call returns the record that it was given, lists and deficits with it, and leaves the tables
  pub unchanged : (n : ℕ) → (reply s c).answer ≡ refused n → ((reply s c).state ≡ s) × TablesKept s c (refused n)

-- a fresh call is refused, by 1, exactly when a setting or the start clock is out of range: it returns the all-zero record then, which is
-- not well formed, and else one that is
pub record FreshInOrder (settings : Settings) (clock : ℕ) : Type 0 where
  pub refuses : setup_refused settings clock ≡ true → (fresh_refusal settings clock ≡ 1) × (fresh settings clock ≡ zero_state)
  pub accepts : setup_refused settings clock ≡ false → fresh_refusal settings clock ≡ 0
  pub formed : fresh_refusal settings clock ≡ 0 → well_formed (fresh settings clock) ≡ true
  pub zero-malformed : well_formed zero_state ≡ false

pub record Refusals : Type 0 where
  pub calls : (s : State) (c : Call) → RefusedInOrder s c
  pub starts : (settings : Settings) (clock : ℕ) → FreshInOrder settings clock
