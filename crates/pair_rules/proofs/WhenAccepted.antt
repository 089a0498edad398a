-- What a call that no test refuses is known to have, in the called queue's words.
use mathlib.Core.Path.{◌≡◌, refl}
use mathlib.Core.Bool.{Bool, true, false, cond, ◌&&◌, false≢true}
use mathlib.Core.Logic.{◌≢◌}
use mathlib.Core.List.{List}
use Prim.Native.Nat.{ℕ, ◌+◌, ◌-◌, ◌≤◌, ◌<◌}
use native.Mathlib.Omega.{arith}
use lib.Dec.{eqb, leb, ltb}
use lib.ListN.{length}
use borrow.Author.Tests.{eqb-false, eqb-true, leb-false, ltb-false, not-false}
use Rattle.laws.specs.Tests.{all}
use Rattle.laws.proofs.Choice.{at-cond}
use Rattle.laws.proofs.Tests.{and_left, and_right, or-neither}
use Rattle.pie.specs.Constants.{largest, latest, most_verdicts, period}
use Rattle.pie.specs.Verdicts.{admitted, total}
use Rattle.pie.specs.declared.Verdict.{Verdict}
use Rattle.pie.specs.declared.Verdict.TheVariants.{DroppedBytes, DroppedSlots}
use Rattle.refusals.proofs.Fitting.{HeadFits, head-fits, size-in-range}
use Rattle.refusals.proofs.Ordered.{none-refuses}
use Rattle.refusals.specs.Rows.{first_refusal}
use Rattle.refusals.specs.Tests.{head_refused}
use Rattle.store.specs.Following.{link_refused}
use Rattle.store.specs.Put.{free_place}
use Rattle.store.specs.declared.Store.{Store}
use Rattle.pair_rules.specs.Arrival.{bytes_full, slots_full, verdict_of}
use Rattle.pair_rules.specs.Departure.{departure_refusal, departure_refusals, head_size}
use Rattle.pair_rules.specs.Facing.{facing}
use Rattle.pair_rules.specs.Queues.{own, paired}
use Rattle.pair_rules.specs.Refusals.{clock_refused, tables_refused}
use Rattle.pair_rules.specs.Tick.{tick_refusal, tick_refusals}
use Rattle.pair_rules.specs.WellFormed.{queue_conditions, well_formed}
use Rattle.pair_rules.specs.declared.Pair.{Pair}
use Rattle.pair_rules.specs.declared.Shared.{Shared}
use Rattle.pair_rules.specs.declared.State.{State}
use Rattle.pair_rules.specs.declared.Which.{Which}
use Rattle.pair_rules.specs.declared.Which.TheVariants.{Intercom, Passengers}
use Rattle.pair_rules.proofs.Facts.{QueueFits, facts, queue-passes}
use Rattle.pair_rules.proofs.Replies.{early}
use Rattle.pair_rules.proofs.Symmetry.{seen}

-- what is known of well-formed records, the called queue's and what it shares
pub record Known (slots : ℕ) (store : Store) (o : State) : Type 0 where
  pub slots-high : slots ≤ 65536
  pub freed-high : store.freed < slots
  pub used_high : store.used ≤ slots
  pub spare-high : store.spare ≤ slots
  pub passes : all (queue_conditions slots o) ≡ true
  pub own : QueueFits slots o

known-first : (s : Shared) (o t : State) → well_formed (paired Intercom s o t) ≡ true → Known s.slots s.store o
known-first s o t w =
    let f = facts (paired Intercom s o t) w in
    record {
      slots-high = f.shared.slots-high;
      freed-high = f.shared.freed-high;
      used_high = f.shared.used_high;
      spare-high = omega arith;
      passes = queue-passes s.slots o f.intercom;
      own = f.intercom;
    }

pub known : (w : Which) (s : Shared) (o t : State) → well_formed (seen w s o t) ≡ true → Known s.slots s.store o
known Intercom s o t e = known-first s o t e
known Passengers s o t e = known-first (facing Passengers s) o t e

-- ── what each test's failing says ──

tables-fit-first : (s : Shared) (handles_length sizes_length : ℕ) →
    tables_refused s handles_length sizes_length ≡ false → (handles_length ≡ s.slots) × (sizes_length ≡ s.slots)
tables-fit-first s handles_length sizes_length e =
    let h = eqb handles_length s.slots in
    let z = eqb sizes_length s.slots in
    let both : h && z ≡ true = not-false (h && z) e in
    (eqb-true _ _ (and_left h z both), eqb-true _ _ (and_right h z both))

tables-fit : (w : Which) (s : Shared) (handles_length sizes_length : ℕ) →
    tables_refused (facing w s) handles_length sizes_length ≡ false → (handles_length ≡ s.slots) × (sizes_length ≡ s.slots)
tables-fit Intercom s handles_length sizes_length e = tables-fit-first s handles_length sizes_length e
tables-fit Passengers s handles_length sizes_length e = tables-fit-first s handles_length sizes_length e

clock-in-order : (o : State) (clock : ℕ) → clock_refused o clock ≡ false → (o.clock.0 ≤ clock) × (clock ≤ latest)
clock-in-order o clock e =
    let n = or-neither (ltb clock o.clock.0) (ltb latest clock) e in
    (ltb-false _ _ n.0, ltb-false _ _ n.1)

-- ── the calls ──

pub record TickAccepted (slots : ℕ) (store : Store) (o : State) (clock : ℕ) : Type 0 where
  pub records : Known slots store o
  pub clock-low : o.clock.0 ≤ clock
  pub clock-high : clock ≤ latest
  pub due : o.last.0 + period ≤ clock

pub tick-accepted : (w : Which) (s : Shared) (o t : State) (clock : ℕ) (f : Shared) → f ≡ facing w s →
    tick_refusal (paired Intercom f o t) Intercom clock ≡ 0 → TickAccepted s.slots s.store o clock
unfolding tick_refusal
tick-accepted w s o t clock f ef e =
    let at = none-refuses (tick_refusals (seen w s o t) Intercom clock) refl (rw ef at e) in
    let time = clock-in-order o clock (at 1) in
    record {
      records = known w s o t (not-false (well_formed (seen w s o t)) (at 0));
      clock-low = time.0;
      clock-high = time.1;
      due = ltb-false _ _ (at 2);
    }

pub record DepartureAccepted (slots : ℕ) (store : Store) (o : State) (handles_length : ℕ) (sizes : List ℕ) (clock : ℕ) : Type 0 where
  pub records : Known slots store o
  pub handles : handles_length ≡ slots
  pub table : length sizes ≡ slots
  pub clock-low : o.clock.0 ≤ clock
  pub clock-high : clock ≤ latest
  pub some : 1 ≤ o.backlog.count
  pub head : HeadFits o.backlog (head_size o sizes)
  pub link : link_refused slots sizes o.ends.head o.backlog.count ≡ false

pub link-of : (w : Which) (s : Shared) (sizes : List ℕ) (place count : ℕ) →
    link_refused (facing w s).slots sizes place count ≡ false → link_refused s.slots sizes place count ≡ false
link-of Intercom s sizes place count e = e
link-of Passengers s sizes place count e = e

pub departure-accepted : (w : Which) (s : Shared) (o t : State) (handles_length : ℕ) (sizes : List ℕ) (clock : ℕ) (f : Shared) →
    f ≡ facing w s → departure_refusal (paired Intercom f o t) Intercom handles_length sizes clock ≡ 0 →
    DepartureAccepted s.slots s.store o handles_length sizes clock
unfolding departure_refusal
departure-accepted w s o t handles_length sizes clock f ef e =
    let at = none-refuses (departure_refusals (seen w s o t) Intercom handles_length sizes clock) refl (rw ef at e) in
    let tables = tables-fit w s handles_length (length sizes) (at 1) in
    let time = clock-in-order o clock (at 2) in
    let none : o.backlog.count ≢ 0 = eqb-false _ _ (at 3) in
    let wrong = head_refused o.backlog (head_size o sizes) in
    let word = or-neither wrong (link_refused (facing w s).slots sizes o.ends.head o.backlog.count) (at 4) in
    record {
      records = known w s o t (not-false (well_formed (seen w s o t)) (at 0));
      handles = tables.0;
      table = tables.1;
      clock-low = time.0;
      clock-high = time.1;
      some = omega arith;
      head = head-fits o.backlog (head_size o sizes) word.0;
      link = link-of w s sizes o.ends.head o.backlog.count word.1;
    }

pub record ArrivalAccepted (slots : ℕ) (store : Store) (o : State) (handles_length sizes_length clock size : ℕ) : Type 0 where
  pub records : Known slots store o
  pub handles : handles_length ≡ slots
  pub sizes : sizes_length ≡ slots
  pub clock-low : o.clock.0 ≤ clock
  pub clock-high : clock ≤ latest
  pub size_low : 1 ≤ size
  pub size-high : size ≤ largest
  pub total-low : total o.verdicts < most_verdicts

pub arrival-accepted : (w : Which) (s : Shared) (o t : State) (handles_length sizes_length clock size : ℕ) (f : Shared) →
    f ≡ facing w s → first_refusal (early f o t handles_length sizes_length clock size) ≡ 0 →
    (well_formed (paired Intercom f o t) ≡ true) × ArrivalAccepted s.slots s.store o handles_length sizes_length clock size
arrival-accepted w s o t handles_length sizes_length clock size f ef e =
    let at = none-refuses (early (facing w s) o t handles_length sizes_length clock size) refl (rw ef at e) in
    let formed = not-false (well_formed (seen w s o t)) (at 0) in
    let tables = tables-fit w s handles_length sizes_length (at 1) in
    let time = clock-in-order o clock (at 2) in
    let range = size-in-range size (at 3) in
    let full : total o.verdicts ≢ most_verdicts = eqb-false _ _ (at 4) in
    let k = known w s o t formed in (
      rw ef formed,
      record {
        records = k;
        handles = tables.0;
        sizes = tables.1;
        clock-low = time.0;
        clock-high = time.1;
        size_low = range.0;
        size-high = range.1;
        total-low = omega (arith, k.own.total-high);
      },
    )

-- ── the place of an admitted packet (16) ──

not-both : {A : Type 0} (a b : Bool) → a && b ≡ false → (a ≡ false → A) → (b ≡ false → A) → A
not-both true b e first second = second e
not-both false b e first second = first refl

-- where rule 2 does not hold, not every slot is held
first-room : (s : Shared) (o t : State) → well_formed (paired Intercom s o t) ≡ true → slots_full (paired Intercom s o t) Intercom ≡ false →
    free_place s.store < s.slots
first-room s o t w e =
    let f = facts (paired Intercom s o t) w in
    let a = o.backlog.count in
    let b = t.backlog.count in
    let first = s.reserves.intercom in
    let second = s.reserves.passengers in
    let fits = f.shared.reserves-high in
    let common : (a - first) + (b - second) ≤ s.slots - (first + second) = f.both.common-high in
    let used = f.both.used-is in
    let held : a + b < s.slots = not-both (leb first a) (eqb ((a - first) + (b - second)) (s.slots - (first + second))) e
    (λ less. let l = leb-false first a less in omega arith)
    (λ other. let n = eqb-false ((a - first) + (b - second)) (s.slots - (first + second)) other in omega arith) in
    at-cond (λ place. place < s.slots) (leb 1 s.store.spare)
    (λ some. f.shared.freed-high)
    (λ none. let l = leb-false 1 s.store.spare none in omega arith)

pub room : (w : Which) (s : Shared) (o t : State) (f : Shared) → f ≡ facing w s → well_formed (paired Intercom f o t) ≡ true →
    slots_full (paired Intercom f o t) Intercom ≡ false → free_place s.store < s.slots
room Intercom s o t f ef w e = first-room s o t (rw ef at w) (rw ef at e)
room Passengers s o t f ef w e = first-room (facing Passengers s) o t (rw ef at w) (rw ef at e)

-- an admitted packet met neither rule 1 nor rule 2
neither-full : (bytes slots : Bool) (v : Verdict) →
    admitted (cond bytes DroppedBytes (cond slots DroppedSlots v)) ≡ true → (bytes ≡ false) × (slots ≡ false)
neither-full true slots v e = absurd (false≢true e)
neither-full false true v e = absurd (false≢true e)
neither-full false false v e = (refl, refl)

pub admitted-room : (p : Pair) (w : Which) (size : ℕ) (ecn : Bool) (u : ℕ) → admitted (verdict_of p w size ecn u) ≡ true →
    ((own w p).backlog.bytes.0 + size ≤ (own w p).settings.buffer.0) × (slots_full p w ≡ false)
unfolding verdict_of
admitted-room p w size ecn u e =
    let n = neither-full (bytes_full (own w p) size) (slots_full p w) _ e in (ltb-false _ _ n.0, n.1)
