-- Demand 1 for two queues: any call on either queue, with any records, any tables and any numbers. It is refused exactly when one of its
-- tests holds, by the lowest number whose test holds, and a refused call changes nothing: none of the three records, neither table.
use Rattle.std.specs.Prelude.{◌≡◌, Bool, true, false, ℕ, ◌≤◌, length}
use mathlib.Core.List.{List, Memᴰ}
use Rattle.refusals.specs.Answer.{Answer, made, refused}
use Rattle.ring.specs.Calls.{Call, arrive, depart, update}
use Rattle.pair_rules.specs.Fresh.{fresh, setup_refused, zero_pair}
use Rattle.pair_rules.specs.WellFormed.{well_formed}
use Rattle.pair_rules.specs.declared.Pair.{Pair}
use Rattle.pair_rules.specs.declared.Setup.{Setup}
use Rattle.pair_rules.specs.declared.Which.{Which}
use Rattle.pair_rules.specs.Arrival.{arrival_refusals, arrived_handles, arrived_sizes}
use Rattle.pair_rules.specs.Departure.{departed_sizes, departure_refusals}
use Rattle.pair_rules.specs.Tick.{tick_refusals}
use Rattle.pair_guarantees.specs.Calls.{reply}

-- the call's rows of the table of refusals: each number with its test
abbrev pub rows_of : Pair → Which → Call → List (ℕ × Bool)
rows_of p w (arrive handles sizes clock handle size ecn u) = arrival_refusals p w (length handles) sizes clock size ecn u
rows_of p w (depart handles sizes clock) = departure_refusals p w (length handles) sizes clock
rows_of p w (update clock) = tick_refusals p w clock

-- the test of this number holds
abbrev pub Applies : Pair → Which → Call → (number : ℕ) → Type 0
Applies p w c number = Memᴰ (number, true) (rows_of p w c)

-- both tables after a call that was so answered are those that it was lent: a tick is lent none, a departure writes to no handle
abbrev pub TablesKept : Pair → Which → Call → Answer → Type 0
TablesKept p w (arrive handles sizes clock handle size ecn u) a =
    (arrived_handles p a handles handle ≡ handles) × (arrived_sizes p w a sizes size ≡ sizes)
TablesKept p w (depart handles sizes clock) a = departed_sizes p w a sizes ≡ sizes
TablesKept p w (update clock) a = Unit {0}

pub record RefusedInOrder (p : Pair) (w : Which) (c : Call) : Type 0 where
  -- the number that is given applies, and no lower one does
  pub lowest : (n : ℕ) → (reply p w c).answer ≡ refused n → Applies p w c n × ((m : ℕ) → Applies p w c m → n ≤ m)
  -- where a number applies, the call is refused
  pub refuses : (m : ℕ) → Applies p w c m → (n : ℕ) × ((reply p w c).answer ≡ refused n)
  -- a refused call returns the three records that it was given, and leaves the tables
  pub unchanged : (n : ℕ) → (reply p w c).answer ≡ refused n → ((reply p w c).pair ≡ p) × TablesKept p w c (refused n)

-- a fresh call is refused, by 1, exactly when slots, reserves, a setting or a start clock are out of range: it returns the three all-zero
-- records then, which are not well formed, and else records that are
pub record FreshInOrder (slots : ℕ) (intercom passengers : Setup) : Type 0 where
  pub refuses : setup_refused slots intercom passengers ≡ true →
      fresh slots intercom passengers ≡ record { answer = refused 1; pair = zero_pair }
  pub accepts : setup_refused slots intercom passengers ≡ false → (fresh slots intercom passengers).answer ≡ made
  pub formed : (fresh slots intercom passengers).answer ≡ made → well_formed (fresh slots intercom passengers).pair ≡ true
  pub zero-malformed : well_formed zero_pair ≡ false

pub record Refusals : Type 0 where
  pub calls : (p : Pair) (w : Which) (c : Call) → RefusedInOrder p w c
  pub starts : (slots : ℕ) (intercom passengers : Setup) → FreshInOrder slots intercom passengers
