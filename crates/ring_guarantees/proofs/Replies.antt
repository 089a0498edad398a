-- A call is refused by the number that its rows of the table of refusals give, and returns the state that it was given, or it is accepted:
-- what holds in each case holds of every reply.
use mathlib.Core.Path.{◌≡◌, refl, sym, ap, ◌∙◌}
use mathlib.Core.Bool.{Bool, true}
use mathlib.Core.Logic.{◌≢◌}
use mathlib.Core.List.{List}
use Prim.Native.Nat.{ℕ, zero, suc}
use native.Mathlib.Omega.{arith}
use lib.ListN.{length}
use Rattle.pie.specs.declared.Verdict.{Verdict}
use Rattle.ring.specs.Activity.{begun}
use Rattle.ring.specs.Answer.{Reply, unless_refused}
use Rattle.refusals.specs.Answer.{departed, refused, ticked, verdict}
use Rattle.ring.specs.Arrival.{arrival, arrival_refusal, arrived_state, verdict_of}
use Rattle.ring.specs.Departure.{departed_state, departure, departure_refusal, head_of}
use Rattle.refusals.specs.Rows.{first_refusal}
use Rattle.ring.specs.State.{well_formed}
use Rattle.ring.specs.Tick.{tick, tick_refusal, ticked_state}
use Rattle.ring.specs.declared.State.{State}
use Rattle.ring.proofs.Kept.{arrived-well-formed, departed-well-formed, ticked-well-formed}
use Rattle.ring.proofs.WhenAccepted.{ArrivalAccepted, DepartureAccepted, TickAccepted, arrival-accepted, departure-accepted, tick-accepted}
use Rattle.ring.specs.Calls.{Call, arrive, depart, reply, update}
use Rattle.ring_guarantees.specs.Refusals.{rows_of}

abbrev pub refusal_of : State → (number : ℕ) → Reply
refusal_of s number = record { answer = refused number; state = s }

abbrev pub arrival_of : State → (clock size : ℕ) (ecn : Bool) (u : ℕ) → Reply
arrival_of s clock size ecn u =
    let v = verdict_of (begun s) size ecn u in record { answer = verdict v; state = arrived_state (begun s) clock size v }

abbrev pub departure_of : State → (handles sizes : List ℕ) (clock : ℕ) → Reply
departure_of s handles sizes clock =
    record { answer = departed (head_of s handles) (head_of s sizes); state = departed_state s clock (head_of s sizes) }

abbrev pub tick_of : State → (clock : ℕ) → Reply
tick_of s clock = record { answer = ticked; state = ticked_state s clock }

-- ── by the number ──

-- 0 where no test of the call holds
abbrev pub number_given : State → Call → ℕ
number_given s c = first_refusal (rows_of s c)

-- the reply where none does
abbrev pub acceptance : State → Call → Reply
acceptance s (arrive handles sizes clock handle size ecn u) = arrival_of s clock size ecn u
acceptance s (depart handles sizes clock) = departure_of s handles sizes clock
acceptance s (update clock) = tick_of s clock

reply-unless-refused : (s : State) (c : Call) → reply s c ≡ unless_refused (number_given s c) s (acceptance s c)
unfolding arrival arrival_refusal departure departure_refusal tick tick_refusal
reply-unless-refused s (arrive handles sizes clock handle size ecn u) = refl
reply-unless-refused s (depart handles sizes clock) = refl
reply-unless-refused s (update clock) = refl

pub by_number : (P : Reply → Type 0) (s : State) (c : Call) →
    ((n : ℕ) → n ≢ 0 → number_given s c ≡ n → P (refusal_of s n)) → (number_given s c ≡ 0 → P (acceptance s c)) → P (reply s c)
by_number P s c some none = rw (reply-unless-refused s c) (go (number_given s c) refl)
  where
    go : (n : ℕ) → number_given s c ≡ n → P (unless_refused n s (acceptance s c))
    go zero e = none e
    go (suc n) e = some (suc n) (omega arith) e

pub acceptance-not-refused : (s : State) (c : Call) (n : ℕ) → (acceptance s c).answer ≢ refused n
acceptance-not-refused s (arrive handles sizes clock handle size ecn u) n e = let z : ◌≡◌ {A = ℕ} 0 1 = cc in omega arith
acceptance-not-refused s (depart handles sizes clock) n e = let z : ◌≡◌ {A = ℕ} 0 1 = cc in omega arith
acceptance-not-refused s (update clock) n e = let z : ◌≡◌ {A = ℕ} 0 1 = cc in omega arith

-- an answer that is a refusal gives the number of the rows, and returns the state that was given
pub refused-by-number : (s : State) (c : Call) (n : ℕ) → (reply s c).answer ≡ refused n →
    (n ≢ 0) × (number_given s c ≡ n) × ((reply s c).state ≡ s)
refused-by-number s c n =
    by_number (λ r. r.answer ≡ refused n → (n ≢ 0) × (number_given s c ≡ n) × (r.state ≡ s)) s c
    (λ k some given e. let same : k ≡ n = cc in (omega arith, given ∙ same, refl))
    (λ none e. absurd (acceptance-not-refused s c n e))

pub number-refuses : (s : State) (c : Call) → number_given s c ≢ 0 → (reply s c).answer ≡ refused (number_given s c)
number-refuses s c some =
    by_number (λ r. r.answer ≡ refused (number_given s c)) s c (λ n _ given. ap refused (sym given)) (λ none. absurd (some none))

-- ── with what an accepted call is known to have ──

abbrev pub Accepted : State → Call → Type 0
Accepted s (arrive handles sizes clock handle size ecn u) = ArrivalAccepted s (length handles) (length sizes) clock size
Accepted s (depart handles sizes clock) = DepartureAccepted s (length handles) (length sizes) clock (head_of s sizes)
Accepted s (update clock) = TickAccepted s clock

none-given-accepted : (s : State) (c : Call) → number_given s c ≡ 0 → Accepted s c
unfolding arrival_refusal departure_refusal tick_refusal
none-given-accepted s (arrive handles sizes clock handle size ecn u) e = arrival-accepted s (length handles) (length sizes) clock size e
none-given-accepted s (depart handles sizes clock) e = departure-accepted s (length handles) (length sizes) clock (head_of s sizes) e
none-given-accepted s (update clock) e = tick-accepted s clock e

pub at-one-reply : (P : Reply → Type 0) (s : State) (c : Call) →
    ((number : ℕ) → P (refusal_of s number)) → (Accepted s c → P (acceptance s c)) → P (reply s c)
at-one-reply P s c r a = by_number P s c (λ n some given. r n) (λ none. a (none-given-accepted s c none))

pub at-reply : (s : State) (P : Call → Reply → Type 0) →
    ((c : Call) (number : ℕ) → P c (refusal_of s number)) →
    ((handles sizes : List ℕ) (clock handle size : ℕ) (ecn : Bool) (u : ℕ) →
    ArrivalAccepted s (length handles) (length sizes) clock size →
    P (arrive handles sizes clock handle size ecn u) (arrival_of s clock size ecn u)) →
    ((handles sizes : List ℕ) (clock : ℕ) →
    DepartureAccepted s (length handles) (length sizes) clock (head_of s sizes) →
    P (depart handles sizes clock) (departure_of s handles sizes clock)) →
    ((clock : ℕ) → TickAccepted s clock → P (update clock) (tick_of s clock)) →
    (c : Call) → P c (reply s c)
at-reply s P r a d t c = at-one-reply (P c) s c (r c) (go c)
  where
    go : (c : Call) → Accepted s c → P c (acceptance s c)
    go (arrive handles sizes clock handle size ecn u) = a handles sizes clock handle size ecn u
    go (depart handles sizes clock) = d handles sizes clock
    go (update clock) = t clock

pub reply-well-formed : (s : State) → well_formed s ≡ true → (c : Call) → well_formed (reply s c).state ≡ true
reply-well-formed s w =
    at-reply s (λ c r. well_formed r.state ≡ true)
    (λ c number. w)
    (λ handles sizes clock handle size ecn u a. arrived-well-formed s (length handles) (length sizes) clock size ecn u a)
    (λ handles sizes clock a. departed-well-formed s (length handles) (length sizes) clock (head_of s sizes) a)
    (λ clock a. ticked-well-formed s clock a)

-- the verdict of an accepted arrival is that of the rules
pub decided-verdict : (s : State) (handles sizes : List ℕ) (clock handle size : ℕ) (ecn : Bool) (u : ℕ) (v : Verdict) →
    (reply s (arrive handles sizes clock handle size ecn u)).answer ≡ verdict v → verdict_of (begun s) size ecn u ≡ v
decided-verdict s handles sizes clock handle size ecn u v =
    at-one-reply (λ r. r.answer ≡ verdict v → verdict_of (begun s) size ecn u ≡ v) s (arrive handles sizes clock handle size ecn u)
    (λ number e. cc)
    (λ a e. cc)
