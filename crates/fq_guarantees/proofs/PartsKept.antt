-- What an accepted call keeps, of each flow and of the lists.
use mathlib.Core.Path.{◌≡◌, refl, sym, ap, subst, ◌∙◌}
use mathlib.Core.Bool.{Bool, true, false, cond, not, ◌&&◌}
use mathlib.Core.List.{List, [], ◌∷◌}
use Prim.Native.Nat.{ℕ, zero, suc, ◌+◌, ◌-◌, ◌<◌}
use native.Mathlib.Omega.{arith}
use lib.ListN.{get_or-map, get_or, length, length-map, set}
use lib.Seq.{set-get_or}
use Rattle.pie.specs.Verdicts.{admitted}
use Rattle.pie.specs.declared.Verdict.{Verdict}
use Rattle.refusals.specs.Rows.{first_refusal}
use Rattle.schedule.specs.Entering.{is_listed}
use Rattle.schedule.specs.Ring.{Schedule, charged_in, entered_in, two_lists}
use Rattle.schedule_guarantees.specs.Kept as two
use Rattle.schedule_guarantees.specs.KeptInRing as lists
use Rattle.schedule_guarantees.proofs.KeptInRing.{arrival-keeps-ring, departure-keeps-ring, entered-or-same}
use Rattle.schedule_guarantees.proofs.KeptInRing as ring
use Rattle.fq_state.specs.Flow.{empty_flow}
use Rattle.fq_state.specs.State.{State, count_of, counts_of, flow_at}
use Rattle.fq_state.specs.WellFormed.{flows_fit}
use Rattle.fq_state.specs.declared.Flow.{Flow}
use Rattle.fq_rules.specs.Arrival.{arrived_schedule}
use Rattle.fq_guarantees.specs.Acceptance.{acceptance}
use Rattle.fq_guarantees.specs.Calls.{Call}
use Rattle.fq_guarantees.specs.Kept.{Sound}
use Rattle.fq_guarantees.specs.Refusals.{rows_of}
use Rattle.fq_guarantees.specs.SixtyFour.{Record64}
use Rattle.fq_guarantees.proofs.Facts.{facts}
use Rattle.fq_guarantees.proofs.Flows.{all-fit}
use Rattle.fq_guarantees.proofs.Sheds.{accepted-keeps}

abbrev pub sixty_four : (s : State) → Sound s → Record64
sixty_four s h = record { state = s; sixty_four = h.flows_long }

-- ── each flow ──

pub flows-kept : (s : State) (h : Sound s) (c : Call) → first_refusal (rows_of s c) ≡ 0 → length (acceptance s c).state.flows ≡ 64 →
    flows_fit (acceptance s c).state.common (acceptance s c).state.flows ≡ true
flows-kept s h c e n =
    all-fit (acceptance s c).state.common (acceptance s c).state.flows
    (λ i l. (accepted-keeps i (omega arith) (sixty_four s h) c e).1)

-- ── the lists ──

pub lists-sound : (s : State) → Sound s → lists.SoundRing (counts_of s.flows) s.schedule
lists-sound s h =
    record {
      counts-long = length-map s.flows count_of ∙ h.flows_long;
      order-long = h.order-long;
      deficits-long = h.deficits-long;
      well = (facts s h.formed).listed;
    }

pub two-lists-sound : (s : State) → Sound s → two.Sound (counts_of s.flows) (two_lists s.schedule)
two-lists-sound s h = ring.lists-sound (counts_of s.flows) s.schedule (lists-sound s h)

-- the counts, as one flow is replaced
pub counts-set : (flows : List Flow) (i : ℕ) (f : Flow) → counts_of (set flows i f) ≡ set (counts_of flows) i f.count
counts-set [] i f = refl
counts-set (x ∷ flows) zero f = refl
counts-set (x ∷ flows) (suc i) f = ap (λ (l : List ℕ). x.count ∷ l) (counts-set flows i f)

pub count_at : (flows : List Flow) (i : ℕ) → get_or (counts_of flows) i 0 ≡ (flow_at flows i).count
count_at flows i = get_or-map count_of flows i (empty_flow 0)

-- an arrival lists its flow where it is admitted
pub arrived-lists : (flows : List Flow) (s : Schedule) (i : ℕ) (v : Verdict) (f : Flow) → lists.SoundRing (counts_of flows) s → i < 64 →
    f.count ≡ cond (admitted v) ((flow_at flows i).count + 1) (flow_at flows i).count →
    lists.SoundRing (counts_of (set flows i f)) (arrived_schedule s i v)
unfolding arrived_schedule
arrived-lists flows s i v f h low is =
    subst (λ counts. lists.SoundRing counts (arrived_schedule s i v)) (sym (counts-set flows i f)) (go (admitted v) is)
  where
    go : (t : Bool) → f.count ≡ cond t ((flow_at flows i).count + 1) (flow_at flows i).count →
        lists.SoundRing (set (counts_of flows) i f.count) (cond (t && not (is_listed (two_lists s) i)) (entered_in s i) s)
    go true e = rw (e, sym (count_at flows i), entered-or-same s i) (arrival-keeps-ring (counts_of flows) s i h low)
    go false e = rw (e, sym (count_at flows i), set-get_or (counts_of flows) i 0) h

pub departed-lists : (flows : List Flow) (s : Schedule) (i size : ℕ) (f : Flow) → lists.SoundRing (counts_of flows) s → i < 64 →
    f.count ≡ (flow_at flows i).count - 1 → lists.SoundRing (counts_of (set flows i f)) (charged_in s i size)
departed-lists flows s i size f h low e =
    rw (counts-set flows i f, e, sym (count_at flows i)) (departure-keeps-ring (counts_of flows) s i size h low)
