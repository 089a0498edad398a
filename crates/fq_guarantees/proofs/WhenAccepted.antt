-- What a call that no test refuses is known to have.
use mathlib.Core.Path.{◌≡◌, refl}
use mathlib.Core.Bool.{Bool, true, false, cond, ◌&&◌, false≢true}
use mathlib.Core.Logic.{◌≢◌}
use mathlib.Core.List.{List}
use Prim.Native.Nat.{ℕ, ◌+◌, ◌≤◌, ◌<◌}
use native.Mathlib.Omega.{arith}
use lib.Dec.{eqb, ltb}
use lib.ListN.{length}
use borrow.Author.Tests.{eqb-false, eqb-true, ltb-false, not-false}
use Rattle.laws.proofs.Tests.{and_left, and_right, or-neither}
use Rattle.pie.specs.Constants.{largest, latest, most_verdicts, period}
use Rattle.pie.specs.Verdicts.{admitted, total}
use Rattle.pie.specs.declared.Verdict.{Verdict}
use Rattle.pie.specs.declared.Verdict.TheVariants.{DroppedBytes, DroppedSlots}
use Rattle.refusals.proofs.Fitting.{HeadFits, head-fits, size-in-range}
use Rattle.refusals.proofs.Ordered.{none-refuses}
use Rattle.refusals.specs.Rows.{first_refusal}
use Rattle.refusals.specs.Tests.{head_refused}
use Rattle.store.specs.Following.{link_refused}
use Rattle.fq_state.specs.Flow.{backlog_of}
use Rattle.fq_state.specs.State.{State, flow_at}
use Rattle.fq_state.specs.WellFormed.{well_formed}
use Rattle.fq_state.specs.declared.Common.{Common}
use Rattle.fq_state.specs.declared.Flow.{Flow}
use Rattle.fq_rules.specs.Arrival.{arrival_refusals, bytes_full, flow_number, freed_refused, slots_full, verdict_of}
use Rattle.fq_rules.specs.Departure.{departure_refusals, head_size, served_flow}
use Rattle.fq_rules.specs.Refusals.{clock_refused, tables_refused}
use Rattle.fq_rules.specs.Tick.{tick_refusals}
use Rattle.fq_guarantees.proofs.Facts.{Facts, facts}

-- ── what each test's failing says ──

tables-fit : (c : Common) (handles_length sizes_length : ℕ) → tables_refused c handles_length sizes_length ≡ false →
    (handles_length ≡ c.settings.slots) × (sizes_length ≡ c.settings.slots)
tables-fit c handles_length sizes_length e =
    let h = eqb handles_length c.settings.slots in
    let z = eqb sizes_length c.settings.slots in
    let both : h && z ≡ true = not-false (h && z) e in
    (eqb-true _ _ (and_left h z both), eqb-true _ _ (and_right h z both))

clock-in-order : (c : Common) (clock : ℕ) → clock_refused c clock ≡ false → (c.clock.0 ≤ clock) × (clock ≤ latest)
clock-in-order c clock e =
    let n = or-neither (ltb clock c.clock.0) (ltb latest clock) e in (ltb-false _ _ n.0, ltb-false _ _ n.1)

-- ── the calls ──

pub record TickAccepted (s : State) (clock : ℕ) : Type 0 where
  pub formed : well_formed s ≡ true
  pub known : Facts s
  pub clock-low : s.common.clock.0 ≤ clock
  pub clock-high : clock ≤ latest
  pub due : s.common.last.0 + period ≤ clock

pub tick-accepted : (s : State) (clock : ℕ) → first_refusal (tick_refusals s clock) ≡ 0 → TickAccepted s clock
tick-accepted s clock e =
    let at = none-refuses (tick_refusals s clock) refl e in
    let formed = not-false (well_formed s) (at 0) in
    let time = clock-in-order s.common clock (at 1) in
    record {
      formed = formed;
      known = facts s formed;
      clock-low = time.0;
      clock-high = time.1;
      due = ltb-false _ _ (at 2);
    }

pub record DepartureAccepted (s : State) (handles_length : ℕ) (sizes : List ℕ) (clock : ℕ) : Type 0 where
  pub formed : well_formed s ≡ true
  pub known : Facts s
  pub handles : handles_length ≡ s.common.settings.slots
  pub table : length sizes ≡ s.common.settings.slots
  pub clock-low : s.common.clock.0 ≤ clock
  pub clock-high : clock ≤ latest
  pub some : 1 ≤ s.common.backlog.count
  pub head : HeadFits (backlog_of (served_flow s)) (head_size (served_flow s) sizes)
  pub link : link_refused s.common.settings.slots sizes (served_flow s).head (served_flow s).count ≡ false

pub departure-accepted : (s : State) (handles_length : ℕ) (sizes : List ℕ) (clock : ℕ) →
    first_refusal (departure_refusals s handles_length sizes clock) ≡ 0 → DepartureAccepted s handles_length sizes clock
departure-accepted s handles_length sizes clock e =
    let at = none-refuses (departure_refusals s handles_length sizes clock) refl e in
    let formed = not-false (well_formed s) (at 0) in
    let tables = tables-fit s.common handles_length (length sizes) (at 1) in
    let time = clock-in-order s.common clock (at 2) in
    let none : s.common.backlog.count ≢ 0 = eqb-false _ _ (at 3) in
    let f = served_flow s in
    let wrong = head_refused (backlog_of f) (head_size f sizes) in
    let word = or-neither wrong (link_refused s.common.settings.slots sizes f.head f.count) (at 4) in
    record {
      formed = formed;
      known = facts s formed;
      handles = tables.0;
      table = tables.1;
      clock-low = time.0;
      clock-high = time.1;
      some = omega arith;
      head = head-fits (backlog_of f) (head_size f sizes) word.0;
      link = word.1;
    }

pub record ArrivalAccepted (s : State) (handles_length : ℕ) (sizes : List ℕ) (clock size : ℕ) (v : Verdict) : Type 0 where
  pub formed : well_formed s ≡ true
  pub known : Facts s
  pub handles : handles_length ≡ s.common.settings.slots
  pub table : length sizes ≡ s.common.settings.slots
  pub clock-low : s.common.clock.0 ≤ clock
  pub clock-high : clock ≤ latest
  pub size_low : 1 ≤ size
  pub size-high : size ≤ largest
  pub total-low : total s.common.verdicts < most_verdicts
  pub link : freed_refused s.common sizes v ≡ false

pub arrival-accepted : (s : State) (handles_length : ℕ) (sizes : List ℕ) (clock : ℕ) (key : List ℕ) (size : ℕ) (ecn : Bool) (u : ℕ) →
    first_refusal (arrival_refusals s handles_length sizes clock key size ecn u) ≡ 0 →
    ArrivalAccepted s handles_length sizes clock size (verdict_of s.common (flow_at s.flows (flow_number s key)) size ecn u)
arrival-accepted s handles_length sizes clock key size ecn u e =
    let at = none-refuses (arrival_refusals s handles_length sizes clock key size ecn u) refl e in
    let formed = not-false (well_formed s) (at 0) in
    let known = facts s formed in
    let tables = tables-fit s.common handles_length (length sizes) (at 1) in
    let time = clock-in-order s.common clock (at 2) in
    let range = size-in-range size (at 3) in
    let full : total s.common.verdicts ≢ most_verdicts = eqb-false _ _ (at 4) in
    record {
      formed = formed;
      known = known;
      handles = tables.0;
      table = tables.1;
      clock-low = time.0;
      clock-high = time.1;
      size_low = range.0;
      size-high = range.1;
      total-low = omega (arith, known.common.total-high);
      link = at 5;
    }

-- an admitted packet met neither rule 1 nor rule 2
neither-full : (bytes slots : Bool) (v : Verdict) →
    admitted (cond bytes DroppedBytes (cond slots DroppedSlots v)) ≡ true → (bytes ≡ false) × (slots ≡ false)
neither-full true slots v e = absurd (false≢true e)
neither-full false true v e = absurd (false≢true e)
neither-full false false v e = (refl, refl)

pub admitted-room : (c : Common) (f : Flow) (size : ℕ) (ecn : Bool) (u : ℕ) → admitted (verdict_of c f size ecn u) ≡ true →
    (c.backlog.bytes.0 + size ≤ c.settings.buffer.0) × (c.backlog.count ≢ c.settings.slots)
unfolding verdict_of
admitted-room c f size ecn u e =
    let n = neither-full (bytes_full c size) (slots_full c) _ e in (ltb-false _ _ n.0, eqb-false _ _ n.1)
