-- A record of 64 flows stays well formed (23), whatever it is asked and whatever tables it is lent.
use Rattle.std.specs.Prelude.{◌≡◌, true, length}
use Rattle.fq_state.specs.State.{State}
use Rattle.fq_state.specs.WellFormed.{well_formed}
use Rattle.fq_guarantees.specs.Calls.{Call, reply}

-- well formed, with 64 flows, places of the lists and deficits
pub record Sound (s : State) : Type 0 where
  pub flows_long : length s.flows ≡ 64
  pub order-long : length s.schedule.order ≡ 64
  pub deficits-long : length s.schedule.deficits ≡ 64
  pub formed : well_formed s ≡ true

abbrev pub Kept : Type 0
Kept = (s : State) (c : Call) → Sound s → Sound (reply s c).state
