-- The flows' counts after a call: those before it, with that of the flow that it was about noted anew.
use mathlib.Core.Path.{◌≡◌, refl, ap, sym, ◌∙◌}
use mathlib.Core.Bool.{Bool, true, false, cond}
use mathlib.Core.List.{List, [], ◌∷◌, map}
use Prim.Native.Nat.{ℕ, zero, suc, ◌+◌, ◌≤◌, ◌<◌}
use native.Mathlib.Omega.{arith}
use lib.ListN.{length, set}
use lib.Seq.{get_or-set_same, set-get_or}
use Rattle.pie.specs.Backlog.{entered}
use Rattle.pie.specs.Verdicts.{admitted}
use Rattle.pie.specs.declared.Verdict.{Verdict}
use Rattle.fq_state.specs.Flow.{backlog_of, empty_flow, flow_with}
use Rattle.fq_state.specs.State.{State, count_of, counts_of, flow_at}
use Rattle.fq_state.specs.WellFormed.{well_formed}
use Rattle.fq_state.specs.declared.Flow.{Flow}
use Rattle.fq_state.proofs.Facts.{passes}
use Rattle.fq_rules.specs.Answer.{Reply, flow_in}
use Rattle.fq_rules.specs.Arrival.{arrival, arrived_flow, flow_number}
use Rattle.fq_rules.specs.Departure.{choice_of, departed_flow, departure}
use Rattle.fq_rules.specs.Tick.{tick, ticked_flow}
use Rattle.fq_rules.proofs.Cases.{arrival-cases, departure-cases, tick-cases}
use Rattle.fq_rules.proofs.EachFlow.{each_fits}
use Rattle.fq_words.proofs.AddedUp.{bounds}

counts-set : (flows : List Flow) (i : ℕ) (f : Flow) → counts_of (set flows i f) ≡ set (counts_of flows) i f.count
counts-set [] i f = refl
counts-set (x ∷ flows) zero f = refl
counts-set (x ∷ flows) (suc i) f = ap (λ (l : List ℕ). x.count ∷ l) (counts-set flows i f)

-- ── a call changes one flow at most ──

abbrev OneChanged : (flow : ℕ) → List Flow → List Flow → Type 0
OneChanged flow fs gs = gs ≡ set fs flow (flow_at gs flow)

set_back : (fs : List Flow) (i : ℕ) (g : Flow) → i < length fs → OneChanged i fs (set fs i g)
set_back fs i g h = ap (set fs i) (sym (get_or-set_same fs i g (empty_flow 0) h))

none-changed : (fs : List Flow) (i : ℕ) → OneChanged i fs fs
none-changed fs i = sym (set-get_or fs i (empty_flow 0))

counts-noted : (fs gs : List Flow) (flow : ℕ) → OneChanged flow fs gs → set (counts_of fs) flow (flow_at gs flow).count ≡ counts_of gs
counts-noted fs gs flow one = sym (counts-set fs flow (flow_at gs flow)) ∙ ap counts_of (sym one)

-- what is noted is small
arrived-low : (target : ℕ) (f : Flow) (size place : ℕ) (v : Verdict) → (arrived_flow target f size place v).count ≤ f.count + 1
unfolding arrived_flow flow_with
arrived-low target f size place v = go (admitted v)
  where
    go : (b : Bool) → (cond b (entered (backlog_of f) size) (backlog_of f)).count ≤ f.count + 1
    go true = omega arith
    go false = omega arith

departed-low : (f : Flow) (sizes : List ℕ) (clock size : ℕ) → (departed_flow f sizes clock size).count ≤ f.count + 1
unfolding departed_flow flow_with
departed-low f sizes clock size = omega arith

module _ (s : State) (formed : well_formed s ≡ true) (long : length s.flows ≡ 64) where
  given-low : (i : ℕ) → i < 64 → (flow_at s.flows i).count ≤ 65536
  given-low i low =
      let p = passes s formed in
      (bounds s.common (flow_at s.flows i) p.common (each_fits s.common s.flows i p.flows (rw long low))).0

  -- another flow in the place of one
  set-low : (i : ℕ) (g : Flow) → i < 64 → g.count ≤ (flow_at s.flows i).count + 1 → (flow_at (set s.flows i g) i).count ≤ 65537
  set-low i g low h =
      let z = given-low i low in
      rw (get_or-set_same s.flows i g (empty_flow 0) (rw long low)) (omega arith)

  same_low : (i : ℕ) → i < 64 → (flow_at s.flows i).count ≤ 65537
  same_low i low = let z = given-low i low in omega arith

  pub arrival-low : (handles sizes : List ℕ) (clock : ℕ) (key : List ℕ) (size : ℕ) (ecn : Bool) (u flow : ℕ) → flow ≡ flow_number s key →
      flow < 64 → (flow_at (arrival s handles sizes clock key size ecn u).state.flows flow).count ≤ 65537
  arrival-low handles sizes clock key size ecn u flow n low =
      arrival-cases (λ (r : Reply). (flow_at r.state.flows flow).count ≤ 65537) s handles sizes clock key size ecn u
      (λ k. same_low flow low)
      (rw (sym n) (set-low flow _ low (arrived-low _ _ _ _ _)))

  pub departure-low : (handles sizes : List ℕ) (clock flow : ℕ) → flow ≡ flow_in (departure s handles sizes clock).answer → flow < 64 →
      (flow_at (departure s handles sizes clock).state.flows flow).count ≤ 65537
  departure-low handles sizes clock flow n low =
      rw n
      (departure-cases
      (λ (r : Reply). flow_in r.answer < 64 → (flow_at r.state.flows (flow_in r.answer)).count ≤ 65537) s handles sizes clock
      (λ k z. same_low 0 z)
      (λ z. set-low (choice_of s).flow _ z (departed-low _ _ _ _))
      (rw n at low))

  -- ── the counts noted ──

  module _ (counts counts' : List ℕ) (gs : List Flow) (flow : ℕ)
      (e : counts ≡ counts_of s.flows) (e' : counts' ≡ set counts flow (flow_at gs flow).count) where
    noted : OneChanged flow s.flows gs → counts' ≡ counts_of gs
    noted one = e' ∙ ap (λ l. set l flow (flow_at gs flow).count) e ∙ counts-noted s.flows gs flow one

    pub arrival-noted : (handles sizes : List ℕ) (clock : ℕ) (key : List ℕ) (size : ℕ) (ecn : Bool) (u : ℕ) →
        flow ≡ flow_number s key → flow < 64 →
        gs ≡ (arrival s handles sizes clock key size ecn u).state.flows → counts' ≡ counts_of gs
    arrival-noted handles sizes clock key size ecn u n low g =
        let changed : OneChanged flow s.flows (arrival s handles sizes clock key size ecn u).state.flows =
        arrival-cases (λ (r : Reply). OneChanged flow s.flows r.state.flows) s handles sizes clock key size ecn u
        (λ k. none-changed s.flows flow)
        (rw (sym n) (set_back s.flows flow _ (rw long low))) in
        noted (rw g changed)

    pub departure-noted : (handles sizes : List ℕ) (clock : ℕ) → flow ≡ flow_in (departure s handles sizes clock).answer → flow < 64 →
        gs ≡ (departure s handles sizes clock).state.flows → counts' ≡ counts_of gs
    departure-noted handles sizes clock n low g =
        let changed : OneChanged (flow_in (departure s handles sizes clock).answer) s.flows
        (departure s handles sizes clock).state.flows =
        departure-cases (λ (r : Reply). flow_in r.answer < 64 → OneChanged (flow_in r.answer) s.flows r.state.flows) s
        handles sizes clock
        (λ k z. none-changed s.flows 0)
        (λ z. set_back s.flows _ _ (rw long z))
        (rw n at low) in
        noted (rw (n, g) changed)

-- ── a tick changes no count ──

ticked-count : (target : ℕ) (f : Flow) → count_of (ticked_flow target f) ≡ count_of f
unfolding ticked_flow flow_with
ticked-count target f = refl

ticked-counts : (target : ℕ) (fs : List Flow) → counts_of (map (ticked_flow target) fs) ≡ counts_of fs
ticked-counts target [] = refl
ticked-counts target (f ∷ fs) =
    ap (λ n. n ∷ counts_of (map (ticked_flow target) fs)) (ticked-count target f)
    ∙ ap (λ (l : List ℕ). count_of f ∷ l) (ticked-counts target fs)

pub tick-counts : (s : State) (clock : ℕ) → counts_of (tick s clock).state.flows ≡ counts_of s.flows
tick-counts s clock =
    tick-cases (λ (r : Reply). counts_of r.state.flows ≡ counts_of s.flows) s clock
    (λ k. refl)
    (ticked-counts s.common.settings.target.0 s.flows)
