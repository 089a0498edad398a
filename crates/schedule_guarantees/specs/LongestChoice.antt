-- 26: 2,879 moves do happen, in well-formed lists. All 64 flows stand in the new list, each with a deficit of −65,535, and only flow 63 has
-- a packet.
use Rattle.std.specs.Prelude.{◌≡◌, List, [], ◌∷◌, ◌++◌, ℕ, zero, suc, length, replicate}
use Rattle.schedule.specs.Choosing.{choose, choose_in}
use Rattle.schedule.specs.TwoLists.{TwoLists, lists}
use Rattle.schedule_guarantees.specs.Kept.{Sound}

-- 0, 1, .., n − 1
abbrev up_to : (n : ℕ) → List ℕ
up_to zero = []
up_to (suc n) = up_to n ++ n ∷ []

abbrev pub longest : TwoLists
longest = lists (up_to 64) [] (replicate 64 0)

abbrev pub last_only : List ℕ
last_only = replicate 63 0 ++ 1 ∷ []

-- with 2,879 looks the flow is not found; with 2,880 it is
abbrev pub LongestChoice : Type 0
LongestChoice =
    Sound last_only longest
    × (length (choose last_only longest).moved ≡ 2879)
    × ((choose_in 2879 last_only longest).flow ≡ 0)
    × ((choose last_only longest).flow ≡ 63)
