-- What keeps the lists well formed keeps the ring so, since it stands for them.
use mathlib.Core.Path.{◌≡◌, refl}
use mathlib.Core.Bool.{Bool, true, false, cond, not}
use mathlib.Core.List.{List}
use Prim.Native.Nat.{ℕ, ◌+◌}
use lib.ListN.{get_or, set}
use Rattle.schedule.specs.Choosing.{choose, most_looks}
use Rattle.schedule.specs.Entering.{entered, is_listed}
use Rattle.schedule.specs.InRing.{Holds, Ring64}
use Rattle.schedule.specs.Ring.{Schedule, charged_in, chosen_in, entered_in, two_lists}
use Rattle.schedule.specs.TwoLists.{TwoLists}
use Rattle.schedule.proofs.InRing.{chooses-in-ring, enters-in-ring}
use Rattle.schedule.proofs.Tallied.{lists_of, ring-of-well, well-of-ring}
use Rattle.schedule_guarantees.specs.Kept.{Sound}
use Rattle.schedule_guarantees.specs.KeptInRing.{ArrivalKeepsRing, ChoosingKeepsRing, DepartureKeepsRing, SoundRing, arrived_in}
use Rattle.schedule_guarantees.proofs.Kept.{arrival-keeps, choosing-keeps, departure-keeps}

-- the lists in a ring
pub lists-sound : (counts : List ℕ) (s : Schedule) → SoundRing counts s → Sound counts (two_lists s)
lists-sound counts s h = record { counts-long = h.counts-long; deficits-long = h.deficits-long; well = well-of-ring counts s h.well }

-- a ring in which such lists stand
ring-sound : (counts : List ℕ) (s : Schedule) (l : TwoLists) → Holds s l → Sound counts l → SoundRing counts s
ring-sound counts s l k h =
    let same : Sound counts (two_lists s) = rw k.reads h in
    record {
      counts-long = same.counts-long;
      order-long = k.ring.long;
      deficits-long = same.deficits-long;
      well = ring-of-well counts s k.ring.fits same.well;
    }

-- what choosing leaves in the ring
pub holds-choice : (counts : List ℕ) (s : Schedule) → Ring64 s →
    let c = choose counts (two_lists s) in Holds (chosen_in s c) c.lists
unfolding choose
holds-choice counts s h = chooses-in-ring most_looks counts s h

pub choosing-keeps-ring : ChoosingKeepsRing
choosing-keeps-ring counts s h =
    let c = choose counts (two_lists s) in
    let k = choosing-keeps counts (two_lists s) (lists-sound counts s h) in
    let r = holds-choice counts s (record { long = h.order-long; fits = lists_of counts s h.well }) in
    (ring-sound counts (chosen_in s c) c.lists r k.0, k.1)

pub arrival-keeps-ring : ArrivalKeepsRing
arrival-keeps-ring counts s flow h low =
    go (is_listed (two_lists s) flow) refl (arrival-keeps counts (two_lists s) flow (lists-sound counts s h) low)
  where
    more : List ℕ
    more = set counts flow (get_or counts flow 0 + 1)

    go : (b : Bool) → is_listed (two_lists s) flow ≡ b →
        Sound (set counts flow (get_or counts flow 0 + 1)) (cond b (two_lists s) (entered (two_lists s) flow)) →
        SoundRing (set counts flow (get_or counts flow 0 + 1)) (cond b s (entered_in s flow))
    go true e k =
        ring-sound more s (two_lists s)
        (record { ring = record { long = h.order-long; fits = lists_of counts s h.well }; reads = refl }) k
    go false e k =
        ring-sound more (entered_in s flow) (entered (two_lists s) flow) (enters-in-ring counts s flow h.order-long h.well low e) k

pub departure-keeps-ring : DepartureKeepsRing
departure-keeps-ring counts s flow size h low =
    let k = departure-keeps counts (two_lists s) flow size (lists-sound counts s h) low in
    record {
      counts-long = k.counts-long;
      order-long = h.order-long;
      deficits-long = k.deficits-long;
      well = ring-of-well _ (charged_in s flow size) (lists_of counts s h.well) k.well;
    }

-- the same choice the other way round
pub entered-or-same : (s : Schedule) (flow : ℕ) → cond (not (is_listed (two_lists s) flow)) (entered_in s flow) s ≡ arrived_in s flow
entered-or-same s flow = go (is_listed (two_lists s) flow)
  where
    go : (b : Bool) → cond (not b) (entered_in s flow) s ≡ cond b s (entered_in s flow)
    go true = refl
    go false = refl
