-- A refused call returns the record that it was lent.
use mathlib.Core.Path.{◌≡◌, refl}
use mathlib.Core.Bool.{Bool}
use mathlib.Core.List.{List}
use Prim.Native.Nat.{ℕ}
use lib.ListN.{length}
use Rattle.fq_state.specs.State.{State}
use Rattle.fq_rules.specs.Answer.{refused}
use Rattle.fq_rules.specs.Arrival.{arrival, arrival_refusal}
use Rattle.fq_rules.specs.Departure.{departure, departure_refusal}
use Rattle.fq_rules.specs.Tick.{tick, tick_refusal}
use Rattle.fq_words.proofs.Returned.{kept}

pub arrival-kept : (s : State) (handles sizes : List ℕ) (clock : ℕ) (key : List ℕ) (size : ℕ) (ecn : Bool) (u n : ℕ) →
    (arrival s handles sizes clock key size ecn u).answer ≡ refused n → (arrival s handles sizes clock key size ecn u).state ≡ s
unfolding arrival
arrival-kept s handles sizes clock key size ecn u n = kept (arrival_refusal s (length handles) sizes clock key size ecn u) s _ n refl

pub departure-kept : (s : State) (handles sizes : List ℕ) (clock n : ℕ) →
    (departure s handles sizes clock).answer ≡ refused n → (departure s handles sizes clock).state ≡ s
unfolding departure
departure-kept s handles sizes clock n = kept (departure_refusal s (length handles) sizes clock) s _ n refl

pub tick-kept : (s : State) (clock n : ℕ) → (tick s clock).answer ≡ refused n → (tick s clock).state ≡ s
unfolding tick
tick-kept s clock n = kept (tick_refusal s clock) s _ n refl
