-- Choosing, an arrival and a departure keep the lists well formed (23), and the deficits of 64.
use Rattle.std.specs.Prelude.{◌≡◌, true, List, ℕ, ◌+◌, ◌-◌, ◌<◌, get_or, length, set}
use Rattle.schedule.specs.Choosing.{Move, charged, choose, look, moves}
use Rattle.schedule.specs.Entering.{arrived}
use Rattle.schedule.specs.TwoLists.{TwoLists}
use Rattle.schedule.specs.WellFormed.{lists_well}

-- counts: how many packets each flow has
pub record Sound (counts : List ℕ) (l : TwoLists) : Type 0 where
  pub counts-long : length counts ≡ 64
  pub deficits-long : length l.deficits ≡ 64
  pub well : lists_well counts l ≡ true

-- 26: each move, and so choosing, which gives the number of a flow
abbrev pub MovesKeep : Type 0
MovesKeep = (counts : List ℕ) (l next : TwoLists) (m : Move) → Sound counts l → look counts l ≡ moves m next → Sound counts next

abbrev pub ChoosingKeeps : Type 0
ChoosingKeeps =
    (counts : List ℕ) (l : TwoLists) → Sound counts l → Sound counts (choose counts l).lists × ((choose counts l).flow < 64)

-- 25: one packet more for a flow, which enters the new list if it is in neither
abbrev pub ArrivalKeeps : Type 0
ArrivalKeeps =
    (counts : List ℕ) (l : TwoLists) (flow : ℕ) → Sound counts l → flow < 64 →
    Sound (set counts flow (get_or counts flow 0 + 1)) (arrived l flow)

-- 27: one packet less for a flow, and its deficit less by the size
abbrev pub DepartureKeeps : Type 0
DepartureKeeps =
    (counts : List ℕ) (l : TwoLists) (flow size : ℕ) → Sound counts l → flow < 64 →
    Sound (set counts flow (get_or counts flow 0 - 1)) (charged l flow size)
