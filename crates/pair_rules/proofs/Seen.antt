-- Rule 2 and the verdict, as the called queue sees the records.
use mathlib.Core.Path.{◌≡◌, refl}
use mathlib.Core.Bool.{Bool}
use Prim.Native.Nat.{ℕ, ◌-◌}
use Rattle.pair_rules.specs.Queues.{paired}
use Rattle.pair_rules.specs.declared.Shared.{Shared}
use Rattle.pair_rules.specs.declared.State.{State}
use Rattle.pair_rules.specs.declared.Which.{Which}
use Rattle.pair_rules.specs.declared.Which.TheVariants.{Intercom, Passengers}
use Rattle.pair_rules.proofs.Symmetry.{seen, sum-swapped}
use Rattle.pair_rules.specs.Arrival.{slots_full, verdict_of}

pub slots-full-seen : (w : Which) (s : Shared) (o t : State) → slots_full (paired w s o t) w ≡ slots_full (seen w s o t) Intercom
slots-full-seen Intercom s o t = refl
slots-full-seen Passengers s o t =
    rw (
      sum-swapped (t.backlog.count - s.reserves.intercom) (o.backlog.count - s.reserves.passengers),
      sum-swapped s.reserves.intercom s.reserves.passengers,
    )

pub verdict-seen : (w : Which) (s : Shared) (o t : State) (size : ℕ) (ecn : Bool) (u : ℕ) →
    verdict_of (paired w s o t) w size ecn u ≡ verdict_of (seen w s o t) Intercom size ecn u
unfolding verdict_of
verdict-seen Intercom s o t size ecn u = refl
verdict-seen Passengers s o t size ecn u = rw (slots-full-seen Passengers s o t)
