-- The same of the ring: choosing, an arrival and a departure keep it well formed (23), its places and the deficits 64.
use Rattle.std.specs.Prelude.{◌≡◌, true, cond, List, ℕ, ◌+◌, ◌-◌, ◌<◌, get_or, length, set}
use Rattle.schedule.specs.Choosing.{choose}
use Rattle.schedule.specs.Entering.{is_listed}
use Rattle.schedule.specs.Ring.{Schedule, charged_in, chosen_in, entered_in, two_lists}
use Rattle.schedule.specs.WellFormed.{well_listed}

-- counts: how many packets each flow has
pub record SoundRing (counts : List ℕ) (s : Schedule) : Type 0 where
  pub counts-long : length counts ≡ 64
  pub order-long : length s.order ≡ 64
  pub deficits-long : length s.deficits ≡ 64
  pub well : well_listed counts s ≡ true

-- 26: choosing, which gives the number of a flow
abbrev pub ChoosingKeepsRing : Type 0
ChoosingKeepsRing =
    (counts : List ℕ) (s : Schedule) → SoundRing counts s →
    let c = choose counts (two_lists s) in SoundRing counts (chosen_in s c) × (c.flow < 64)

-- 25: a flow that is in neither list enters
abbrev pub arrived_in : Schedule → (flow : ℕ) → Schedule
arrived_in s flow = cond (is_listed (two_lists s) flow) s (entered_in s flow)

abbrev pub ArrivalKeepsRing : Type 0
ArrivalKeepsRing =
    (counts : List ℕ) (s : Schedule) (flow : ℕ) → SoundRing counts s → flow < 64 →
    SoundRing (set counts flow (get_or counts flow 0 + 1)) (arrived_in s flow)

-- 27
abbrev pub DepartureKeepsRing : Type 0
DepartureKeepsRing =
    (counts : List ℕ) (s : Schedule) (flow size : ℕ) → SoundRing counts s → flow < 64 →
    SoundRing (set counts flow (get_or counts flow 0 - 1)) (charged_in s flow size)
