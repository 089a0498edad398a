-- What a reply's answer tells: a refusal's number is above 0, and a verdict is no refusal.
use mathlib.Core.Path.{◌≡◌, refl, ap}
use mathlib.Core.Bool.{Bool, cond}
use mathlib.Core.List.{List}
use Prim.Native.Nat.{ℕ, zero, suc}
use native.Mathlib.Omega.{arith}
use lib.ListN.{length, set}
use Rattle.pie.specs.Verdicts.{admitted}
use Rattle.pie.specs.declared.Verdict.{Verdict}
use Rattle.ring.specs.Activity.{begun}
use Rattle.ring.specs.Answer.{Reply, unless_refused}
use Rattle.refusals.specs.Answer.{departed, refused, size_in, verdict}
use Rattle.ring.specs.Arrival.{arrival, arrival_refusal, arrived_state, stored, tail_place, verdict_of}
use Rattle.ring.specs.Departure.{departed_state, departure, departure_refusal, head_of}
use Rattle.refusals.specs.Numbers.{number_of}
use Rattle.refusals.specs.declared.Refusal.{Refusal}
use Rattle.refusals.specs.declared.Refusal.TheVariants.{Settings, Malformed, Tables, Clock, TooSoon, Empty, Size, Counts, Head}
use Rattle.ring.specs.declared.State.{State}

pub refused-reply : (r : Refusal) (given : State) (accepted : Reply) →
    unless_refused (number_of r) given accepted ≡ record { answer = refused (number_of r); state = given }
refused-reply Settings given accepted = refl
refused-reply Malformed given accepted = refl
refused-reply Tables given accepted = refl
refused-reply Clock given accepted = refl
refused-reply TooSoon given accepted = refl
refused-reply Empty given accepted = refl
refused-reply Size given accepted = refl
refused-reply Counts given accepted = refl
refused-reply Head given accepted = refl

-- a refused arrival: its reply, and the tables as they were
pub arrival-refused : (s : State) (handles sizes : List ℕ) (clock handle size : ℕ) (ecn : Bool) (u : ℕ) (r : Refusal) →
    number_of r ≡ arrival_refusal s (length handles) (length sizes) clock size →
    let reply = arrival s handles sizes clock size ecn u in
    ((refused (number_of r) ≡ reply.answer) × (s ≡ reply.state))
    × ((handles ≡ stored s reply.answer handles handle) × (sizes ≡ stored s reply.answer sizes size))
unfolding arrival
arrival-refused s handles sizes clock handle size ecn u r e = rw (← e, refused-reply) ((refl, refl), (refl, refl))

-- an arrival that is not refused, from what its parts return
pub arrival-decided : (s : State) (handles sizes : List ℕ) (clock handle size : ℕ) (ecn : Bool) (u : ℕ) (v : Verdict) (after : State) (handles' sizes' : List ℕ) →
    0 ≡ arrival_refusal s (length handles) (length sizes) clock size →
    v ≡ verdict_of (begun s) size ecn u →
    after ≡ arrived_state (begun s) clock size v →
    (handles' ≡ cond (admitted v) (set handles (tail_place s) handle) handles) × (sizes' ≡ cond (admitted v) (set sizes (tail_place s) size) sizes) →
    let reply = arrival s handles sizes clock size ecn u in
    ((verdict v ≡ reply.answer) × (after ≡ reply.state))
    × ((handles' ≡ stored s reply.answer handles handle) × (sizes' ≡ stored s reply.answer sizes size))
unfolding arrival
arrival-decided s handles sizes clock handle size ecn u v after handles' sizes' e ev ea et = rw (← e, ea, ← ev) ((refl, refl), et)

-- an arrival that is answered with a verdict was not refused, and returns the state of that verdict
pub decided : (s : State) (handles sizes : List ℕ) (clock size : ℕ) (ecn : Bool) (u : ℕ) (v : Verdict) →
    (arrival s handles sizes clock size ecn u).answer ≡ verdict v →
    (arrival_refusal s (length handles) (length sizes) clock size ≡ 0)
    × ((arrival s handles sizes clock size ecn u).state ≡ arrived_state (begun s) clock size v)
unfolding arrival
decided s handles sizes clock size ecn u v = go (arrival_refusal s (length handles) (length sizes) clock size) refl
  where
    r : Reply
    r =
        let v = verdict_of (begun s) size ecn u in
        record { answer = verdict v; state = arrived_state (begun s) clock size v }

    go : (n : ℕ) → arrival_refusal s (length handles) (length sizes) clock size ≡ n → (unless_refused n s r).answer ≡ verdict v →
        (n ≡ 0) × ((unless_refused n s r).state ≡ arrived_state (begun s) clock size v)
    go zero e f = (refl, cc)
    go (suc n) e f = let z : ◌≡◌ {A = ℕ} 0 1 = cc in absurd (omega arith)

-- a departure that is answered with a packet returns the state that this packet has left
pub taken : (s : State) (handles sizes : List ℕ) (clock handle size : ℕ) →
    (departure s handles sizes clock).answer ≡ departed handle size → (departure s handles sizes clock).state ≡ departed_state s clock size
unfolding departure
taken s handles sizes clock handle size = go (departure_refusal s (length handles) (length sizes) clock (head_of s sizes))
  where
    r : Reply
    r = record { answer = departed (head_of s handles) (head_of s sizes); state = departed_state s clock (head_of s sizes) }

    go : (n : ℕ) → (unless_refused n s r).answer ≡ departed handle size → (unless_refused n s r).state ≡ departed_state s clock size
    go zero f = ap (λ n. departed_state s clock n) (ap size_in f)
    go (suc n) f = let z : ◌≡◌ {A = ℕ} 0 1 = cc in absurd (omega arith)
