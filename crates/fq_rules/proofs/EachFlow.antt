-- What a well-formed record says of each of its flows, and of the lists.
use mathlib.Core.Path.{◌≡◌, refl}
use mathlib.Core.Bool.{true}
use mathlib.Core.List.{List, [], ◌∷◌}
use Prim.Native.Nat.{ℕ, zero, suc, ◌≤◌, ◌<◌}
use native.Mathlib.Omega.{arith}
use lib.ListN.{get_or, length}
use borrow.Author.Tests.{ne_eqb}
use Rattle.laws.specs.Tests.{all}
use Rattle.laws.proofs.Tests.{and_left, and_right}
use Rattle.pie.specs.Verdicts.{total}
use Rattle.schedule.specs.Entering.{is_listed}
use Rattle.schedule.specs.Ring.{Schedule, ring_of, two_lists}
use Rattle.schedule.specs.TwoLists.{listed}
use Rattle.schedule.specs.WellFormed.{are_flows, lists_fit, well_listed}
use Rattle.schedule.proofs.Tallied.{flows-of, lists_of, well-of-ring}
use Rattle.schedule.proofs.Well.{facts-of}
use Rattle.fq_state.specs.State.{counts_of, each_bytes, flow_at}
use Rattle.fq_state.specs.WellFormed.{flow_conditions, flows_fit}
use Rattle.fq_state.specs.declared.Common.{Common}
use Rattle.fq_state.specs.declared.Flow.{Flow}

-- each of flows that fit does
pub each_fits : (c : Common) (flows : List Flow) (i : ℕ) → flows_fit c flows ≡ true → i < length flows →
    all (flow_conditions c (flow_at flows i)) ≡ true
unfolding flows_fit
each_fits c [] i e h = absurd (omega arith)
each_fits c (f ∷ flows) zero e h = and_left (all (flow_conditions c f)) (flows_fit c flows) e
each_fits c (f ∷ flows) (suc i) e h =
    each_fits c flows i (and_right (all (flow_conditions c f)) (flows_fit c flows) e) (omega arith)

-- no flow has more bytes than all have together
pub bytes-of-one : (flows : List Flow) (i : ℕ) → (flow_at flows i).bytes ≤ total (each_bytes flows)
bytes-of-one [] i = omega arith
bytes-of-one (f ∷ flows) zero = omega arith
bytes-of-one (f ∷ flows) (suc i) = let h = bytes-of-one flows i in omega arith

-- ── the lists ──

pub record ListsFit (counts : List ℕ) (s : Schedule) : Type 0 where
  pub places : lists_fit s.lists ≡ true
  pub numbers : are_flows (ring_of s.order s.lists.first s.lists.listed) ≡ true
  -- a flow with a packet is in one of the lists
  pub held : (flow : ℕ) → flow < 64 → (get_or counts flow 0 ≡ 0 → ⊥) → 1 ≤ listed flow (two_lists s)

pub lists-fit : (counts : List ℕ) (s : Schedule) → well_listed counts s ≡ true → ListsFit counts s
lists-fit counts s w =
    record {
      places = lists_of counts s w;
      numbers = flows-of counts s w;
      held = (facts-of counts (two_lists s) (well-of-ring counts s w)).held;
    }

count_at : (flows : List Flow) (i : ℕ) → get_or (counts_of flows) i 0 ≡ (flow_at flows i).count
count_at [] i = refl
count_at (f ∷ flows) zero = refl
count_at (f ∷ flows) (suc i) = count_at flows i

pub held-listed : (flows : List Flow) (s : Schedule) (flow : ℕ) → ListsFit (counts_of flows) s → flow < 64 →
    0 < (flow_at flows flow).count → is_listed (two_lists s) flow ≡ true
held-listed flows s flow k h some =
    let times = k.held flow h (λ e. omega (arith, count_at flows flow, e)) in
    rw (ne_eqb (listed flow (two_lists s)) 0 (λ e. omega (arith, times, e)))
