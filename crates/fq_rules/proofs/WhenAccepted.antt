-- What a call that no test refuses is known to have.
use mathlib.Core.Path.{◌≡◌, refl}
use mathlib.Core.Bool.{Bool, true, false, cond, ◌&&◌, false≢true}
use mathlib.Core.Logic.{◌≢◌}
use mathlib.Core.List.{List}
use Prim.Native.Nat.{ℕ, ◌+◌, ◌≤◌, ◌<◌}
use native.Mathlib.Omega.{arith}
use lib.Dec.{eqb, leb, ltb}
use lib.ListN.{length}
use borrow.Author.Tests.{eqb-false, eqb-true, leb-false, ltb-false, not-false}
use Rattle.laws.specs.Tests.{all}
use Rattle.laws.proofs.Choice.{at-cond}
use Rattle.laws.proofs.Tests.{and_left, and_right, or-neither}
use Rattle.pie.specs.Constants.{largest, latest, most_verdicts, period}
use Rattle.pie.specs.Verdicts.{admitted, total}
use Rattle.pie.specs.declared.Verdict.{Verdict}
use Rattle.pie.specs.declared.Verdict.TheVariants.{DroppedBytes, DroppedSlots}
use Rattle.refusals.specs.Rows.{first_refusal}
use Rattle.refusals.specs.Tests.{head_refused}
use Rattle.refusals.proofs.Fitting.{HeadFits, head-fits, size-in-range}
use Rattle.refusals.proofs.Ordered.{none-refuses}
use Rattle.store.specs.Following.{link_refused}
use Rattle.store.specs.Put.{free_place}
use Rattle.fq_state.specs.Flow.{backlog_of}
use Rattle.fq_state.specs.State.{State, counts_of, each_bytes, flow_at}
use Rattle.fq_state.specs.WellFormed.{flow_conditions, well_formed}
use Rattle.fq_state.specs.declared.Common.{Common}
use Rattle.fq_state.specs.declared.Flow.{Flow}
use Rattle.fq_state.proofs.Facts.{CommonFits, FlowFits, common-fits, flow-fits, passes, totals-fit}
use Rattle.fq_rules.specs.Arrival.{before_verdict, bytes_full, slots_full, verdict_of}
use Rattle.fq_rules.specs.Departure.{before_choosing, head_size, head_word_refused}
use Rattle.fq_rules.specs.Refusals.{clock_refused, tables_refused}
use Rattle.fq_rules.specs.Tick.{tick_refusal, tick_refusals}
use Rattle.fq_rules.proofs.EachFlow.{ListsFit, bytes-of-one, each_fits, lists-fit}

clock-in-order : (c : Common) (clock : ℕ) → clock_refused c clock ≡ false → (c.clock.0 ≤ clock) × (clock ≤ latest)
clock-in-order c clock e =
    let n = or-neither (ltb clock c.clock.0) (ltb latest clock) e in
    (ltb-false _ _ n.0, ltb-false _ _ n.1)

tables-fit : (c : Common) (handles_length sizes_length : ℕ) →
    tables_refused c handles_length sizes_length ≡ false → (handles_length ≡ c.settings.slots) × (sizes_length ≡ c.settings.slots)
tables-fit c handles_length sizes_length e =
    let h = eqb handles_length c.settings.slots in
    let z = eqb sizes_length c.settings.slots in
    let both : h && z ≡ true = not-false (h && z) e in
    (eqb-true _ _ (and_left h z both), eqb-true _ _ (and_right h z both))

-- ── the calls ──

pub record TickAccepted (s : State) (clock : ℕ) : Type 0 where
  pub formed : well_formed s ≡ true
  pub clock-low : s.common.clock.0 ≤ clock
  pub clock-high : clock ≤ latest
  pub due : s.common.last.0 + period ≤ clock

pub tick-accepted : (s : State) (clock : ℕ) → tick_refusal s clock ≡ 0 → TickAccepted s clock
unfolding tick_refusal
tick-accepted s clock e =
    let at = none-refuses (tick_refusals s clock) refl e in
    let time = clock-in-order s.common clock (at 1) in
    record {
      formed = not-false (well_formed s) (at 0);
      clock-low = time.0;
      clock-high = time.1;
      due = ltb-false _ _ (at 2);
    }

-- before the choosing
pub record DepartureAccepted (s : State) (handles_length sizes_length clock : ℕ) : Type 0 where
  pub formed : well_formed s ≡ true
  pub handles : handles_length ≡ s.common.settings.slots
  pub sizes : sizes_length ≡ s.common.settings.slots
  pub clock-low : s.common.clock.0 ≤ clock
  pub clock-high : clock ≤ latest
  pub some : 1 ≤ s.common.backlog.count

pub departure-accepted : (s : State) (handles_length sizes_length clock : ℕ) →
    first_refusal (before_choosing s handles_length sizes_length clock) ≡ 0 → DepartureAccepted s handles_length sizes_length clock
departure-accepted s handles_length sizes_length clock e =
    let at = none-refuses (before_choosing s handles_length sizes_length clock) refl e in
    let tables = tables-fit s.common handles_length sizes_length (at 1) in
    let time = clock-in-order s.common clock (at 2) in
    let none : s.common.backlog.count ≢ 0 = eqb-false _ _ (at 3) in
    record {
      formed = not-false (well_formed s) (at 0);
      handles = tables.0;
      sizes = tables.1;
      clock-low = time.0;
      clock-high = time.1;
      some = omega arith;
    }

-- before the verdict
pub record ArrivalAccepted (s : State) (handles_length sizes_length clock size : ℕ) : Type 0 where
  pub formed : well_formed s ≡ true
  pub handles : handles_length ≡ s.common.settings.slots
  pub sizes : sizes_length ≡ s.common.settings.slots
  pub clock-low : s.common.clock.0 ≤ clock
  pub clock-high : clock ≤ latest
  pub size_low : 1 ≤ size
  pub size-high : size ≤ largest
  pub total-low : total s.common.verdicts < most_verdicts

pub arrival-accepted : (s : State) (handles_length sizes_length clock size : ℕ) →
    first_refusal (before_verdict s handles_length sizes_length clock size) ≡ 0 → ArrivalAccepted s handles_length sizes_length clock size
arrival-accepted s handles_length sizes_length clock size e =
    let at = none-refuses (before_verdict s handles_length sizes_length clock size) refl e in
    let formed = not-false (well_formed s) (at 0) in
    let tables = tables-fit s.common handles_length sizes_length (at 1) in
    let time = clock-in-order s.common clock (at 2) in
    let range = size-in-range size (at 3) in
    let full : total s.common.verdicts ≢ most_verdicts = eqb-false _ _ (at 4) in
    let k = common-fits s.common (passes s formed).common in
    record {
      formed = formed;
      handles = tables.0;
      sizes = tables.1;
      clock-low = time.0;
      clock-high = time.1;
      size_low = range.0;
      size-high = range.1;
      total-low = omega (arith, k.total-high);
    }

-- ── the flow that a call is about ──

pub record Known (s : State) (f : Flow) : Type 0 where
  pub common : CommonFits s.common
  pub passes : all (flow_conditions s.common f) ≡ true
  pub own : FlowFits s.common f
  -- no more than all flows together
  pub bytes_high : f.bytes ≤ s.common.backlog.bytes.0
  pub total-fit : s.common.backlog.bytes.0 ≤ s.common.settings.buffer.0
  pub lists : ListsFit (counts_of s.flows) s.schedule

pub known : (s : State) (flow : ℕ) (f : Flow) → well_formed s ≡ true → flow < length s.flows → f ≡ flow_at s.flows flow → Known s f
known s flow f w h e =
    let p = passes s w in
    let t = totals-fit s.common s.flows p.totals in
    let fits : all (flow_conditions s.common f) ≡ true = rw e (each_fits s.common s.flows flow p.flows h) in
    let less : f.bytes ≤ total (each_bytes s.flows) = rw e (bytes-of-one s.flows flow) in
    record {
      common = common-fits s.common p.common;
      passes = fits;
      own = flow-fits s.common f fits;
      bytes_high = omega (arith, t.bytes-are);
      total-fit = t.bytes_fit;
      lists = lists-fit (counts_of s.flows) s.schedule p.lists;
    }

-- a head that is not refused
pub record HeadKnown (slots : ℕ) (f : Flow) (sizes : List ℕ) : Type 0 where
  pub size : HeadFits (backlog_of f) (head_size f sizes)
  pub link : link_refused slots sizes f.head f.count ≡ false

pub head-known : (slots : ℕ) (f : Flow) (sizes : List ℕ) → head_word_refused slots f sizes ≡ false → HeadKnown slots f sizes
head-known slots f sizes e =
    let n = or-neither (head_refused (backlog_of f) (head_size f sizes)) (link_refused slots sizes f.head f.count) e in
    record { size = head-fits (backlog_of f) (head_size f sizes) n.0; link = n.1 }

-- ── the place of an admitted packet ──

-- an admitted packet met neither rule 1 nor rule 2
neither-full : (bytes slots : Bool) (v : Verdict) →
    admitted (cond bytes DroppedBytes (cond slots DroppedSlots v)) ≡ true → (bytes ≡ false) × (slots ≡ false)
neither-full true slots v e = absurd (false≢true e)
neither-full false true v e = absurd (false≢true e)
neither-full false false v e = (refl, refl)

pub admitted-room : (c : Common) (f : Flow) (size : ℕ) (ecn : Bool) (u : ℕ) → admitted (verdict_of c f size ecn u) ≡ true →
    (c.backlog.bytes.0 + size ≤ c.settings.buffer.0) × (c.backlog.count ≢ c.settings.slots)
unfolding verdict_of
admitted-room c f size ecn u e =
    let n = neither-full (bytes_full c size) (slots_full c) _ e in (ltb-false _ _ n.0, eqb-false _ _ n.1)

pub room : (c : Common) → CommonFits c → c.backlog.count ≢ c.settings.slots → free_place c.store < c.settings.slots
room c k other =
    at-cond (λ place. place < c.settings.slots) (leb 1 c.store.spare)
    (λ some. k.freed-high)
    (λ none. let l = leb-false 1 c.store.spare none in omega (arith, k.used-is, k.used_high))
