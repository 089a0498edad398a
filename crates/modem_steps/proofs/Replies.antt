-- The reply of each call where state and row are well formed and the tables fit.
use mathlib.Core.Path.{◌≡◌}
use mathlib.Core.Bool.{true, false}
use mathlib.Core.List.{List}
use Prim.Native.Nat.{ℕ, ◌≤◌, ◌<◌}
use native.Mathlib.Omega.{arith}
use lib.ListN.{length}
use borrow.Author.Tests.{eq-eqb, ne_eqb}
use Rattle.pie.specs.Constants.{most_verdicts}
use Rattle.pie.specs.Verdicts.{total}
use Rattle.refusals.specs.Tests.{head_refused, size_refused}
use Rattle.modem_flow.specs.Arrival.{arrival, arrival_refusal}
use Rattle.modem_flow.specs.Departure.{departure, departure_refusal, head_of}
use Rattle.modem_flow.specs.Refusals.{clock_refused, empty_refused, too_soon_refused}
use Rattle.modem_flow.specs.State.{formed}
use Rattle.modem_flow.specs.Tick.{tick, tick_refusal}
use Rattle.modem_flow.specs.declared.State.{State}
use Rattle.modem_flow.proofs.Facts.{well-formed}
use Rattle.modem_guarantees.proofs.Replies.{arrival_of, departure_of, refusal_of, tick_of}

module _ (s : State) (row : List ℕ) (clock : ℕ) (good : formed s ≡ true) (fits : total row ≤ most_verdicts) where
  -- ── ticks ──

  pub tick-late : (credits : ℕ) → clock_refused s clock ≡ true → tick s row clock credits ≡ refusal_of s 4
  unfolding tick tick_refusal
  tick-late credits e = simp (well-formed s row good fits, e)

  pub tick-early : (credits : ℕ) → clock_refused s clock ≡ false → too_soon_refused s clock ≡ true → tick s row clock credits ≡ refusal_of s 5
  unfolding tick tick_refusal
  tick-early credits e f = simp (well-formed s row good fits, e, f)

  pub tick-made : (credits : ℕ) → clock_refused s clock ≡ false → too_soon_refused s clock ≡ false →
      tick s row clock credits ≡ tick_of s clock credits
  unfolding tick tick_refusal
  tick-made credits e f = simp (well-formed s row good fits, e, f)

  -- ── arrivals and departures ──

  module _ (handles sizes : List ℕ) (h : length handles ≡ s.settings.slots) (z : length sizes ≡ s.settings.slots) where
    pub arrival-late : (size u : ℕ) → clock_refused s clock ≡ true → arrival s row handles sizes clock size u ≡ refusal_of s 4
    unfolding arrival arrival_refusal
    arrival-late size u e = simp (well-formed s row good fits, eq-eqb _ _ h, eq-eqb _ _ z, e)

    pub arrival-wrong : (size u : ℕ) → clock_refused s clock ≡ false → size_refused size ≡ true →
        arrival s row handles sizes clock size u ≡ refusal_of s 7
    unfolding arrival arrival_refusal
    arrival-wrong size u e f = simp (well-formed s row good fits, eq-eqb _ _ h, eq-eqb _ _ z, e, f)

    pub arrival-made : (size u : ℕ) → clock_refused s clock ≡ false → size_refused size ≡ false → total row < most_verdicts →
        arrival s row handles sizes clock size u ≡ arrival_of s clock size u
    unfolding arrival arrival_refusal
    arrival-made size u e f k =
        simp (well-formed s row good fits, eq-eqb _ _ h, eq-eqb _ _ z, e, f, ne_eqb (total row) most_verdicts (omega arith))

    pub departure-late : clock_refused s clock ≡ true → departure s row handles sizes clock ≡ refusal_of s 4
    unfolding departure departure_refusal
    departure-late e = simp (well-formed s row good fits, eq-eqb _ _ h, eq-eqb _ _ z, e)

    pub departure-empty : clock_refused s clock ≡ false → empty_refused s ≡ true → departure s row handles sizes clock ≡ refusal_of s 6
    unfolding departure departure_refusal
    departure-empty e f = simp (well-formed s row good fits, eq-eqb _ _ h, eq-eqb _ _ z, e, f)

    pub departure-wrong : clock_refused s clock ≡ false → empty_refused s ≡ false → head_refused s.backlog (head_of s sizes) ≡ true →
        departure s row handles sizes clock ≡ refusal_of s 9
    unfolding departure departure_refusal
    departure-wrong e f g = simp (well-formed s row good fits, eq-eqb _ _ h, eq-eqb _ _ z, e, f, g)

    pub departure-made : clock_refused s clock ≡ false → empty_refused s ≡ false → head_refused s.backlog (head_of s sizes) ≡ false →
        departure s row handles sizes clock ≡ departure_of s handles sizes clock
    unfolding departure departure_refusal
    departure-made e f g = simp (well-formed s row good fits, eq-eqb _ _ h, eq-eqb _ _ z, e, f, g)
