-- Demand 1: any call, on any state, with any tables and any numbers. It is refused exactly when one of its tests holds, by the lowest
-- number whose test holds, and a refused call changes nothing.
use Rattle.std.specs.Prelude.{◌≡◌, Bool, true, false, ℕ, ◌≤◌, length}
use mathlib.Core.List.{List, Memᴰ}
use Rattle.ring.specs.declared.Settings.{Settings}
use Rattle.ring.specs.declared.State.{State}
use Rattle.ring.specs.State.{well_formed}
use Rattle.refusals.specs.Answer.{made, refused}
use Rattle.ring.specs.Fresh.{fresh, zero_state}
use Rattle.ring.specs.Refusals.{settings_refused}
use Rattle.ring.specs.Arrival.{arrival_refusals}
use Rattle.ring.specs.Departure.{departure_refusals, head_of}
use Rattle.ring.specs.Tick.{tick_refusals}
use Rattle.ring.specs.Calls.{Call, arrive, depart, update, reply}
use Rattle.ring.specs.Calls.{Queue, after, answer_of}
use Rattle.calls.specs.Requests.{Request}

-- the call's rows of the table of refusals: each number with its test
abbrev pub rows_of : State → Call → List (ℕ × Bool)
rows_of s (arrive handles sizes clock handle size ecn u) = arrival_refusals s (length handles) (length sizes) clock size
rows_of s (depart handles sizes clock) = departure_refusals s (length handles) (length sizes) clock (head_of s sizes)
rows_of s (update clock) = tick_refusals s clock

-- the test of this number holds
abbrev pub Applies : State → Call → (number : ℕ) → Type 0
Applies s c number = Memᴰ (number, true) (rows_of s c)

pub record RefusedInOrder (s : State) (c : Call) : Type 0 where
  -- the number that is given applies, and no lower one does
  pub lowest : (n : ℕ) → (reply s c).answer ≡ refused n → Applies s c n × ((m : ℕ) → Applies s c m → n ≤ m)
  -- where a number applies, the call is refused
  pub refuses : (m : ℕ) → Applies s c m → (n : ℕ) × ((reply s c).answer ≡ refused n)
  -- a refused call returns the state that it was given
  pub unchanged : (n : ℕ) → (reply s c).answer ≡ refused n → (reply s c).state ≡ s

-- a fresh call is refused, by 1, exactly when its settings or its clock are out of range: it returns the all-zero record then, which is not
-- well formed, and else a state that is
pub record FreshInOrder (settings : Settings) (clock : ℕ) : Type 0 where
  pub refuses : settings_refused settings clock ≡ true → fresh settings clock ≡ record { answer = refused 1; state = zero_state }
  pub accepts : settings_refused settings clock ≡ false → (fresh settings clock).answer ≡ made
  pub formed : (fresh settings clock).answer ≡ made → well_formed (fresh settings clock).state ≡ true
  pub zero-malformed : well_formed zero_state ≡ false

pub record Refusals : Type 0 where
  pub calls : (s : State) (c : Call) → RefusedInOrder s c
  -- a refused request leaves the whole queue as it was, the state and both tables
  pub untouched : (q : Queue) (r : Request) (n : ℕ) → answer_of q r ≡ refused n → after q r ≡ q
  pub starts : (settings : Settings) (clock : ℕ) → FreshInOrder settings clock
