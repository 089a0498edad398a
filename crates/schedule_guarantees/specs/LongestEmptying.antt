-- 26: where no flow has a packet, 2,880 moves do happen, in well-formed lists: all 64 flows stand in the new list, each with a deficit of
-- −65,535. With 2,879 looks a flow is still listed.
use Rattle.std.specs.Prelude.{◌≡◌, List, [], ◌∷◌, ℕ, length, replicate}
use Rattle.schedule.specs.Choosing.{choose, choose_in}
use Rattle.schedule_guarantees.specs.Kept.{Sound}
use Rattle.schedule_guarantees.specs.LongestChoice.{longest}

abbrev pub no_packets : List ℕ
no_packets = replicate 64 0

abbrev pub LongestEmptying : Type 0
LongestEmptying =
    Sound no_packets longest
    × (length (choose no_packets longest).moved ≡ 2880)
    × ((choose_in 2879 no_packets longest).lists.old ≡ 63 ∷ [])
