-- The stretch computes, and so do tests of what it is asked.
use mathlib.Core.Path.{◌≡◌, refl}
use mathlib.Core.Bool.{Bool, true, ◌&&◌}
use mathlib.Core.List.{List, [], ◌∷◌}
use Prim.Native.Nat.{ℕ, ◌+◌}
use lib.Dec.{leb, ltb}
use lib.ListN.{get_or}
use borrow.Author.Tests.{leb-true, ltb-true}
use Rattle.laws.proofs.Tests.{and_left, and_right}
use Rattle.schedule.specs.Choosing.{choose, choose_in, look}
use Rattle.schedule.specs.Entering.{entered}
use Rattle.schedule.specs.TwoLists.{deficit_of, occurs, zero_deficit}
use Rattle.schedule.specs.WellFormed.{are_flows, every, lists_well}
use Rattle.schedule_guarantees.specs.Stretch.{AllFit, AtEach, Event, Fits, HasPackets, Line, Waits, after, arrives, departs, served}
use Rattle.schedule_guarantees.specs.FairnessReached.{FairnessReached, departures, two_flows}

-- ── the premises as tests ──

abbrev fits : (most : ℕ) → Event → Bool
fits most (arrives flow) = ltb flow 64
fits most (departs size) = leb size most

abbrev all_fit : (most : ℕ) → List Event → Bool
all_fit most [] = true
all_fit most (e ∷ events) = fits most e && all_fit most events

fits-true : (most : ℕ) (e : Event) → fits most e ≡ true → Fits most e
fits-true most (arrives flow) h = ltb-true flow 64 h
fits-true most (departs size) h = leb-true size most h

all-fit : (most : ℕ) (events : List Event) → all_fit most events ≡ true → AllFit most events
all-fit most [] h = tt
all-fit most (e ∷ events) h = (
  fits-true most e (and_left (fits most e) (all_fit most events) h),
  all-fit most events (and_right (fits most e) (all_fit most events) h),
)

abbrev holds : (flow : ℕ) → Line → Event → Bool
holds flow l (arrives other) = true
holds flow l (departs size) = leb 1 (get_or l.counts flow 0)

abbrev holds_at_each : (flow : ℕ) → Line → List Event → Bool
holds_at_each flow l [] = true
holds_at_each flow l (e ∷ events) = holds flow l e && holds_at_each flow (after l e) events

holds-true : (flow : ℕ) (l : Line) (e : Event) → holds flow l e ≡ true → HasPackets flow l e
holds-true flow l (arrives other) h = tt
holds-true flow l (departs size) h = leb-true 1 (get_or l.counts flow 0) h

at_each : (flow : ℕ) (l : Line) (events : List Event) → holds_at_each flow l events ≡ true → AtEach flow l events
at_each flow l [] h = tt
at_each flow l (e ∷ events) h = (
  holds-true flow l e (and_left (holds flow l e) (holds_at_each flow (after l e) events) h),
  at_each flow (after l e) events (and_right (holds flow l e) (holds_at_each flow (after l e) events) h),
)

waits : (flow : ℕ) → holds_at_each flow two_flows departures ≡ true → leb 1 (get_or two_flows.counts flow 0) ≡ true →
    leb zero_deficit (deficit_of two_flows.lists flow + 65535) ≡ true → Waits flow 65535 two_flows departures
waits flow a b c =
    record {
      at-start = leb-true 1 (get_or two_flows.counts flow 0) b;
      at_each = at_each flow two_flows departures a;
      deficit = leb-true zero_deficit (deficit_of two_flows.lists flow + 65535) c;
    }

-- ── the stretch ──

pub fairness-reached : FairnessReached
unfolding after served choose choose_in look entered occurs are_flows every lists_well
fairness-reached = (
  refl,
  record { counts-long = refl; deficits-long = refl; well = refl },
  all-fit 65535 departures refl,
  waits 0 refl refl refl,
  waits 1 refl refl refl,
  refl,
  refl,
)
