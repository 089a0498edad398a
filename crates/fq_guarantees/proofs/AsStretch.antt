-- Each call moves counts, lists and deficits as a stretch of at most one event.
use mathlib.Core.Path.{◌≡◌, refl, ap, sym}
use mathlib.Core.Bool.{Bool, true, false, cond, not, ◌&&◌}
use mathlib.Core.List.{List, [], ◌∷◌, foldl}
use Prim.Native.Nat.{ℕ, ◌+◌, ◌-◌, ◌<◌}
use lib.ListN.{length, set}
use lib.Seq.{set-get_or}
use Rattle.pie.specs.Verdicts.{admitted}
use Rattle.pie.specs.declared.Verdict.{Verdict}
use Rattle.refusals.specs.Rows.{first_refusal}
use Rattle.schedule.specs.Choosing.{charged}
use Rattle.schedule.specs.Entering.{arrived, entered, is_listed}
use Rattle.schedule.specs.Ring.{Schedule, entered_in, two_lists}
use Rattle.schedule.specs.TwoLists.{TwoLists}
use Rattle.schedule.specs.WellFormed.{well_listed}
use Rattle.schedule.proofs.InRing.{enters-in-ring}
use Rattle.schedule.proofs.Tallied.{lists_of}
use Rattle.schedule_guarantees.specs.Stretch.{Line, after, arrives}
use Rattle.schedule_guarantees.proofs.KeptInRing.{holds-choice}
use Rattle.store.specs.Put.{free_place}
use Rattle.fq_state.specs.State.{State, count_of, counts_of, flow_at}
use Rattle.fq_state.specs.declared.Flow.{Flow}
use Rattle.fq_rules.specs.Answer.{Reply}
use Rattle.fq_rules.specs.Arrival.{arrived_flow, arrived_schedule, flow_number, verdict_of}
use Rattle.fq_rules.specs.Departure.{choice_of, departed_flow, head_size, served_flow}
use Rattle.fq_rules.specs.Tick.{ticked_flow}
use Rattle.fq_guarantees.specs.Acceptance.{acceptance}
use Rattle.fq_guarantees.specs.AsStretch.{AsStretch, ServesNext, events_of, line_of}
use Rattle.fq_guarantees.specs.Calls.{Call, arrive, depart, key_flow, update}
use Rattle.fq_guarantees.specs.Refusals.{rows_of}
use Rattle.fq_guarantees.proofs.ArrivalKept.{arrived-count}
use Rattle.fq_guarantees.proofs.DepartureKept.{departed-count}
use Rattle.fq_guarantees.proofs.Flows.{map_same}
use Rattle.fq_guarantees.proofs.Kept.{ticked-count}
use Rattle.fq_guarantees.proofs.OneFlow.{flow-low}
use Rattle.fq_guarantees.proofs.PartsKept.{count_at, counts-set}
use Rattle.fq_guarantees.proofs.Replies.{by_number}
use Rattle.fq_guarantees.proofs.WhenAccepted.{arrival-accepted, departure-accepted}

-- a flow that is admitted to: the lists that stand in the ring
arrived-two : (counts : List ℕ) (s : Schedule) (i : ℕ) → length s.order ≡ 64 → well_listed counts s ≡ true → i < 64 →
    two_lists (cond (not (is_listed (two_lists s) i)) (entered_in s i) s) ≡ arrived (two_lists s) i
arrived-two counts s i long well low = go (is_listed (two_lists s) i) refl
  where
    go : (b : Bool) → is_listed (two_lists s) i ≡ b →
        two_lists (cond (not b) (entered_in s i) s) ≡ cond b (two_lists s) (entered (two_lists s) i)
    go true e = refl
    go false e = (enters-in-ring counts s i long well low e).reads

-- an arrival at flow i, which is then f
arrival-line : (flows : List Flow) (s : Schedule) (i : ℕ) (v : Verdict) (f : Flow) →
    length s.order ≡ 64 → well_listed (counts_of flows) s ≡ true → i < 64 →
    f.count ≡ cond (admitted v) ((flow_at flows i).count + 1) (flow_at flows i).count →
    ◌≡◌ {A = Line} (record { counts = counts_of (set flows i f); lists = two_lists (arrived_schedule s i v) })
    (foldl after (record { counts = counts_of flows; lists = two_lists s }) (cond (admitted v) (arrives i ∷ []) []))
unfolding arrived_schedule after
arrival-line flows s i v f long well low is = rw (counts-set flows i f) (go (admitted v) is)
  where
    go : (t : Bool) → f.count ≡ cond t ((flow_at flows i).count + 1) (flow_at flows i).count →
        ◌≡◌ {A = Line}
        (record {
          counts = set (counts_of flows) i f.count;
          lists = two_lists (cond (t && not (is_listed (two_lists s) i)) (entered_in s i) s);
        })
        (foldl after (record { counts = counts_of flows; lists = two_lists s }) (cond t (arrives i ∷ []) []))
    go true e = rw (e, sym (count_at flows i), arrived-two (counts_of flows) s i long well low)
    go false e = rw (e, sym (count_at flows i), set-get_or (counts_of flows) i 0)

-- a departure of this size from flow i, with these counts after it
abbrev line-of : (counts : List ℕ) (i size : ℕ) → TwoLists → Line
line-of counts i size l = record { counts = counts; lists = charged l i size }

abbrev Moves : (s : State) (c : Call) → Reply → Type 0
Moves s c r = (line_of r.state ≡ foldl after (line_of s) (events_of (key_flow s c) r.answer)) × ServesNext (line_of s) r.answer

accepted-moves : (s : State) (c : Call) → length s.schedule.order ≡ 64 → first_refusal (rows_of s c) ≡ 0 → Moves s c (acceptance s c)
unfolding after
accepted-moves s (arrive handles sizes clock key handle size ecn u) long none =
    let i = flow_number s key in
    let f = flow_at s.flows i in
    let v = verdict_of s.common f size ecn u in
    let target = s.common.settings.target.0 in
    let place = free_place s.common.store in
    let well = (arrival-accepted s (length handles) sizes clock key size ecn u none).known.listed in (
      arrival-line s.flows s.schedule i v (arrived_flow target f size place v) long well (flow-low s key)
          (arrived-count target f size place v),
      tt,
    )
accepted-moves s (depart handles sizes clock) long none =
    let i = (choice_of s).flow in
    let f = served_flow s in
    let size = head_size f sizes in
    let x = departed_flow f sizes clock size in
    let well = (departure-accepted s (length handles) sizes clock none).known.listed in
    let fit = lists_of (counts_of s.flows) s.schedule well in
    let reads = (holds-choice (counts_of s.flows) s.schedule (record { long = long; fits = fit })).reads in (
      rw (counts-set s.flows i x, departed-count f sizes clock size, count_at s.flows i)
          (ap (line-of (set (counts_of s.flows) i (f.count - 1)) i size) reads),
      refl,
    )
accepted-moves s (update clock) long none =
    let target = s.common.settings.target.0 in (rw (map_same count_of (ticked_flow target) (ticked-count target) s.flows), tt)

pub as-stretch : AsStretch
as-stretch s c long =
    let m = by_number (Moves s c) s c (λ n some given. (refl, tt)) (λ none. accepted-moves s c long none) in
    record { line = m.0; serves = m.1 }
