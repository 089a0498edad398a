-- The reply of each call where the state is well formed and the tables fit.
use mathlib.Core.Path.{◌≡◌, ap, ◌∙◌}
use mathlib.Core.Bool.{Bool, true, false}
use mathlib.Core.List.{List}
use Prim.Native.Nat.{ℕ, ◌<◌}
use native.Mathlib.Omega.{arith}
use lib.ListN.{length}
use borrow.Author.Tests.{eq-eqb, ne_eqb}
use Rattle.pie.specs.Constants.{most_verdicts}
use Rattle.pie.specs.Verdicts.{total}
use Rattle.pie.specs.declared.Verdict.{Verdict}
use Rattle.refusals.specs.Tests.{head_refused, size_refused}
use Rattle.ring.specs.declared.State.{State}
use Rattle.ring.specs.Activity.{begun}
use Rattle.ring.specs.State.{well_formed}
use Rattle.ring.specs.Answer.{Reply}
use Rattle.refusals.specs.Answer.{verdict}
use Rattle.ring.specs.Refusals.{clock_refused, empty_refused, too_soon_refused}
use Rattle.ring.specs.Arrival.{arrival, arrival_refusal, arrived_state, verdict_of}
use Rattle.ring.specs.Departure.{departure, departure_refusal, head_of}
use Rattle.ring.specs.Tick.{tick, tick_refusal}
use Rattle.ring.proofs.Activation.{verdict-begun}
use Rattle.ring_guarantees.proofs.Replies.{arrival_of, departure_of, refusal_of, tick_of}

-- an arrival by the rules on the state that it is given: no verdict is another for turning active
abbrev pub arrival_made : State → (clock size : ℕ) (ecn : Bool) (u : ℕ) → Reply
arrival_made s clock size ecn u =
    let v = verdict_of s size ecn u in record { answer = verdict v; state = arrived_state (begun s) clock size v }

-- ── ticks ──

pub tick-late : (s : State) (clock : ℕ) → well_formed s ≡ true → clock_refused s clock ≡ true → tick s clock ≡ refusal_of s 4
unfolding tick tick_refusal
tick-late s clock formed e = simp (formed, e)

pub tick-early : (s : State) (clock : ℕ) → well_formed s ≡ true → clock_refused s clock ≡ false → too_soon_refused s clock ≡ true →
    tick s clock ≡ refusal_of s 5
unfolding tick tick_refusal
tick-early s clock formed e f = simp (formed, e, f)

pub tick-made : (s : State) (clock : ℕ) → well_formed s ≡ true → clock_refused s clock ≡ false → too_soon_refused s clock ≡ false →
    tick s clock ≡ tick_of s clock
unfolding tick tick_refusal
tick-made s clock formed e f = simp (formed, e, f)

-- ── arrivals and departures ──

module _ (s : State) (handles sizes : List ℕ) (clock : ℕ) (formed : well_formed s ≡ true)
    (h : length handles ≡ s.settings.slots) (z : length sizes ≡ s.settings.slots) where
  pub arrival-late : (size : ℕ) (ecn : Bool) (u : ℕ) → clock_refused s clock ≡ true → arrival s handles sizes clock size ecn u ≡ refusal_of s 4
  unfolding arrival arrival_refusal
  arrival-late size ecn u e = simp (formed, eq-eqb _ _ h, eq-eqb _ _ z, e)

  pub arrival-wrong : (size : ℕ) (ecn : Bool) (u : ℕ) → clock_refused s clock ≡ false → size_refused size ≡ true →
      arrival s handles sizes clock size ecn u ≡ refusal_of s 7
  unfolding arrival arrival_refusal
  arrival-wrong size ecn u e f = simp (formed, eq-eqb _ _ h, eq-eqb _ _ z, e, f)

  arrival-begun : (size : ℕ) (ecn : Bool) (u : ℕ) → clock_refused s clock ≡ false → size_refused size ≡ false → total s.verdicts < most_verdicts →
      arrival s handles sizes clock size ecn u ≡ arrival_of s clock size ecn u
  unfolding arrival arrival_refusal
  arrival-begun size ecn u e f k = simp (formed, eq-eqb _ _ h, eq-eqb _ _ z, e, f, ne_eqb (total s.verdicts) most_verdicts (omega arith))

  pub arrival-made : (size : ℕ) (ecn : Bool) (u : ℕ) → clock_refused s clock ≡ false → size_refused size ≡ false → total s.verdicts < most_verdicts →
      arrival s handles sizes clock size ecn u ≡ arrival_made s clock size ecn u
  arrival-made size ecn u e f k =
      arrival-begun size ecn u e f k
      ∙ ap (λ (v : Verdict). record { answer = verdict v; state = arrived_state (begun s) clock size v }) (verdict-begun s size ecn u)

  pub departure-late : clock_refused s clock ≡ true → departure s handles sizes clock ≡ refusal_of s 4
  unfolding departure departure_refusal
  departure-late e = simp (formed, eq-eqb _ _ h, eq-eqb _ _ z, e)

  pub departure-empty : clock_refused s clock ≡ false → empty_refused s ≡ true → departure s handles sizes clock ≡ refusal_of s 6
  unfolding departure departure_refusal
  departure-empty e f = simp (formed, eq-eqb _ _ h, eq-eqb _ _ z, e, f)

  pub departure-wrong : clock_refused s clock ≡ false → empty_refused s ≡ false → head_refused s.backlog (head_of s sizes) ≡ true →
      departure s handles sizes clock ≡ refusal_of s 9
  unfolding departure departure_refusal
  departure-wrong e f g = simp (formed, eq-eqb _ _ h, eq-eqb _ _ z, e, f, g)

  pub departure-made : clock_refused s clock ≡ false → empty_refused s ≡ false → head_refused s.backlog (head_of s sizes) ≡ false →
      departure s handles sizes clock ≡ departure_of s handles sizes clock
  unfolding departure departure_refusal
  departure-made e f g = simp (formed, eq-eqb _ _ h, eq-eqb _ _ z, e, f, g)
