-- 26: choosing never takes a flow with a packet from the lists; it stays listed, and once.
use Rattle.std.specs.Prelude.{◌≡◌, List, ℕ, ◌≤◌, get_or}
use Rattle.schedule.specs.Choosing.{choose}
use Rattle.schedule.specs.TwoLists.{TwoLists, listed}
use Rattle.schedule_guarantees.specs.Kept.{Sound}

abbrev pub NeverUnlists : Type 0
NeverUnlists =
    (counts : List ℕ) (l : TwoLists) (flow : ℕ) → Sound counts l → 1 ≤ get_or counts flow 0 →
    (listed flow l ≡ 1) × (listed flow (choose counts l).lists ≡ 1)
