-- On a record that is not well formed every call is refused by 2, and returns the record that it was given.
use mathlib.Core.Path.{◌≡◌, refl}
use mathlib.Core.Bool.{Bool, false}
use mathlib.Core.List.{List}
use Prim.Native.Nat.{ℕ}
use Rattle.fq_state.specs.State.{State}
use Rattle.fq_state.specs.WellFormed.{well_formed}
use Rattle.fq_rules.specs.Arrival.{arrival, arrival_refusal}
use Rattle.fq_rules.specs.Departure.{departure, departure_refusal}
use Rattle.fq_rules.specs.Tick.{tick, tick_refusal}
use Rattle.fq_rules.proofs.Cases.{refused_by}

pub malformed-arrival : (s : State) (handles sizes : List ℕ) (clock : ℕ) (key : List ℕ) (size : ℕ) (ecn : Bool) (u : ℕ) →
    well_formed s ≡ false → arrival s handles sizes clock key size ecn u ≡ refused_by s 2
unfolding arrival arrival_refusal
malformed-arrival s handles sizes clock key size ecn u e = rw e refl

pub malformed-departure : (s : State) (handles sizes : List ℕ) (clock : ℕ) → well_formed s ≡ false →
    departure s handles sizes clock ≡ refused_by s 2
unfolding departure departure_refusal
malformed-departure s handles sizes clock e = rw e refl

pub malformed-tick : (s : State) (clock : ℕ) → well_formed s ≡ false → tick s clock ≡ refused_by s 2
unfolding tick tick_refusal
malformed-tick s clock e = rw e refl
