-- A call is refused, and returns the record that it was given, or it is accepted.
use mathlib.Core.Bool.{Bool}
use mathlib.Core.List.{List}
use Prim.Native.Nat.{ℕ, zero, suc}
use lib.ListN.{length}
use Rattle.fq_state.specs.State.{State}
use Rattle.fq_rules.specs.Answer.{Reply, refused, unless_refused}
use Rattle.fq_rules.specs.Arrival.{accepted_arrival, arrival, arrival_refusal}
use Rattle.fq_rules.specs.Departure.{accepted_departure, departure, departure_refusal}
use Rattle.fq_rules.specs.Tick.{accepted_tick, tick, tick_refusal}

abbrev pub refused_by : State → (number : ℕ) → Reply
refused_by s number = record { answer = refused number; state = s }

module _ (P : Reply → Type 0) (s : State) where
  by_number : (n : ℕ) (accepted : Reply) → ((k : ℕ) → P (refused_by s (suc k))) → P accepted → P (unless_refused n s accepted)
  by_number zero accepted r a = a
  by_number (suc k) accepted r a = r k

  pub arrival-cases : (handles sizes : List ℕ) (clock : ℕ) (key : List ℕ) (size : ℕ) (ecn : Bool) (u : ℕ) →
      ((k : ℕ) → P (refused_by s (suc k))) → P (accepted_arrival s sizes clock key size ecn u) →
      P (arrival s handles sizes clock key size ecn u)
  unfolding arrival
  arrival-cases handles sizes clock key size ecn u r a =
      by_number (arrival_refusal s (length handles) sizes clock key size ecn u) (accepted_arrival s sizes clock key size ecn u) r a

  pub departure-cases : (handles sizes : List ℕ) (clock : ℕ) →
      ((k : ℕ) → P (refused_by s (suc k))) → P (accepted_departure s handles sizes clock) → P (departure s handles sizes clock)
  unfolding departure
  departure-cases handles sizes clock r a =
      by_number (departure_refusal s (length handles) sizes clock) (accepted_departure s handles sizes clock) r a

  pub tick-cases : (clock : ℕ) → ((k : ℕ) → P (refused_by s (suc k))) → P (accepted_tick s clock) → P (tick s clock)
  unfolding tick
  tick-cases clock r a = by_number (tick_refusal s clock) (accepted_tick s clock) r a
