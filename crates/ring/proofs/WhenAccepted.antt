-- What a call that no test refuses is known to have.
use mathlib.Core.Path.{◌≡◌, refl}
use mathlib.Core.Bool.{true, false, ◌&&◌}
use mathlib.Core.Logic.{◌≢◌}
use Prim.Native.Nat.{ℕ, ◌+◌, ◌-◌, ◌*◌, ◌≤◌, ◌<◌}
use native.Mathlib.Omega.{arith}
use lib.Dec.{eqb, ltb}
use borrow.Author.Tests.{eqb-false, eqb-true, ltb-false, not-false}
use Rattle.laws.proofs.Tests.{and_left, and_right, or-neither}
use Rattle.pie.specs.Constants.{largest, latest, most_verdicts, period}
use Rattle.pie.specs.Verdicts.{total}
use Rattle.ring.specs.Arrival.{arrival_refusal, arrival_refusals}
use Rattle.ring.specs.Departure.{departure_refusal, departure_refusals}
use Rattle.refusals.proofs.Fitting.{head-fits, size-in-range}
use Rattle.refusals.proofs.Ordered.{none-refuses}
use Rattle.ring.specs.Refusals.{clock_refused, tables_refused}
use Rattle.ring.specs.State.{well_formed}
use Rattle.ring.specs.Tick.{tick_refusal, tick_refusals}
use Rattle.ring.specs.declared.State.{State}
use Rattle.ring.proofs.Facts.{Facts, facts}

pub record ArrivalAccepted (s : State) (handles_length sizes_length clock size : ℕ) : Type 0 where
  pub formed : well_formed s ≡ true
  pub known : Facts s
  pub handles : handles_length ≡ s.settings.slots
  pub sizes : sizes_length ≡ s.settings.slots
  pub clock-low : s.clock.0 ≤ clock
  pub clock-high : clock ≤ latest
  pub size_low : 1 ≤ size
  pub size-high : size ≤ largest
  pub total-low : total s.verdicts < most_verdicts

pub record DepartureAccepted (s : State) (handles_length sizes_length clock head_size : ℕ) : Type 0 where
  pub formed : well_formed s ≡ true
  pub known : Facts s
  pub handles : handles_length ≡ s.settings.slots
  pub sizes : sizes_length ≡ s.settings.slots
  pub clock-low : s.clock.0 ≤ clock
  pub clock-high : clock ≤ latest
  pub some : 1 ≤ s.backlog.count
  pub head-low : 1 ≤ head_size
  pub head-high : head_size ≤ largest
  pub head-fits : head_size ≤ s.backlog.bytes.0
  pub left-low : s.backlog.count - 1 ≤ s.backlog.bytes.0 - head_size
  pub left-high : s.backlog.bytes.0 - head_size ≤ largest * (s.backlog.count - 1)

pub record TickAccepted (s : State) (clock : ℕ) : Type 0 where
  pub formed : well_formed s ≡ true
  pub known : Facts s
  pub clock-low : s.clock.0 ≤ clock
  pub clock-high : clock ≤ latest
  pub due : s.last.0 + period ≤ clock

-- ── what each test's failing says ──

pub tables-fit : (s : State) (handles_length sizes_length : ℕ) →
    tables_refused s handles_length sizes_length ≡ false → (handles_length ≡ s.settings.slots) × (sizes_length ≡ s.settings.slots)
tables-fit s handles_length sizes_length e =
    let h = eqb handles_length s.settings.slots in
    let z = eqb sizes_length s.settings.slots in
    let both : h && z ≡ true = not-false (h && z) e in
    (eqb-true _ _ (and_left h z both), eqb-true _ _ (and_right h z both))

clock-in-order : (s : State) (clock : ℕ) → clock_refused s clock ≡ false → (s.clock.0 ≤ clock) × (clock ≤ latest)
clock-in-order s clock e =
    let n = or-neither (ltb clock s.clock.0) (ltb latest clock) e in
    (ltb-false _ _ n.0, ltb-false _ _ n.1)

-- ── the calls ──

pub arrival-accepted : (s : State) (handles_length sizes_length clock size : ℕ) →
    arrival_refusal s handles_length sizes_length clock size ≡ 0 → ArrivalAccepted s handles_length sizes_length clock size
unfolding arrival_refusal
arrival-accepted s handles_length sizes_length clock size e =
    let at = none-refuses (arrival_refusals s handles_length sizes_length clock size) refl e in
    let formed = not-false (well_formed s) (at 0) in
    let known = facts s formed in
    let tables = tables-fit s handles_length sizes_length (at 1) in
    let time = clock-in-order s clock (at 2) in
    let range = size-in-range size (at 3) in
    let full : total s.verdicts ≢ most_verdicts = eqb-false _ _ (at 4) in
    record {
      formed = formed;
      known = known;
      handles = tables.0;
      sizes = tables.1;
      clock-low = time.0;
      clock-high = time.1;
      size_low = range.0;
      size-high = range.1;
      total-low = omega arith;
    }

pub departure-accepted : (s : State) (handles_length sizes_length clock head_size : ℕ) →
    departure_refusal s handles_length sizes_length clock head_size ≡ 0 → DepartureAccepted s handles_length sizes_length clock head_size
unfolding departure_refusal
departure-accepted s handles_length sizes_length clock head_size e =
    let at = none-refuses (departure_refusals s handles_length sizes_length clock head_size) refl e in
    let formed = not-false (well_formed s) (at 0) in
    let tables = tables-fit s handles_length sizes_length (at 1) in
    let time = clock-in-order s clock (at 2) in
    let none : s.backlog.count ≢ 0 = eqb-false _ _ (at 3) in
    let head = head-fits s.backlog head_size (at 4) in
    record {
      formed = formed;
      known = facts s formed;
      handles = tables.0;
      sizes = tables.1;
      clock-low = time.0;
      clock-high = time.1;
      some = omega arith;
      head-low = head.low;
      head-high = head.high;
      head-fits = head.fits;
      left-low = head.left-low;
      left-high = head.left-high;
    }

pub tick-accepted : (s : State) (clock : ℕ) → tick_refusal s clock ≡ 0 → TickAccepted s clock
unfolding tick_refusal
tick-accepted s clock e =
    let at = none-refuses (tick_refusals s clock) refl e in
    let formed = not-false (well_formed s) (at 0) in
    let time = clock-in-order s clock (at 1) in
    record { formed = formed; known = facts s formed; clock-low = time.0; clock-high = time.1; due = ltb-false _ _ (at 2) }
