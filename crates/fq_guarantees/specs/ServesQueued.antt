-- 26 in any well-formed record where a packet is queued: choosing ends at a listed flow that has a packet and a deficit that is not
-- negative, after at most 2,879 moves, and with any more looks allowed at the same (crate schedule_guarantees). So flow 0 is never given
-- for want of another.
use Rattle.std.specs.Prelude.{◌≡◌, ℕ, ◌+◌, ◌≤◌, ◌<◌, length}
use Rattle.schedule.specs.Choosing.{choose_in, most_looks}
use Rattle.schedule.specs.Ring.{two_lists}
use Rattle.schedule_guarantees.specs.ChoosingEnds.{MayBeServed}
use Rattle.fq_state.specs.State.{State, counts_of}
use Rattle.fq_rules.specs.Departure.{choice_of, served_flow}
use Rattle.fq_guarantees.specs.Kept.{Sound}

pub record Serves (s : State) : Type 0 where
  pub queued : 0 < (served_flow s).count
  pub may : MayBeServed (counts_of s.flows) (choice_of s)
  pub moves : (looks : ℕ) → length (choose_in looks (counts_of s.flows) (two_lists s.schedule)).moved ≤ 2879
  pub same : (more : ℕ) → choose_in (most_looks + more) (counts_of s.flows) (two_lists s.schedule) ≡ choice_of s

abbrev pub ServesQueued : Type 0
ServesQueued = (s : State) → Sound s → 0 < s.common.backlog.count → Serves s
