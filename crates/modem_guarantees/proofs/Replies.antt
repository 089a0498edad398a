-- A call is refused by the number that its rows of the table of refusals give, and returns the state that it was given, or it is accepted:
-- what holds in each case holds of every reply.
use mathlib.Core.Path.{◌≡◌, refl, sym, ap, ◌∙◌}
use mathlib.Core.Bool.{Bool, true}
use mathlib.Core.Logic.{◌≢◌}
use mathlib.Core.List.{List}
use Prim.Native.Nat.{ℕ, zero, suc}
use native.Mathlib.Omega.{arith}
use lib.ListN.{length}
use Rattle.refusals.specs.Rows.{first_refusal}
use Rattle.refusals.specs.Answer.{departed, refused, ticked, verdict}
use Rattle.modem_flow.specs.Answer.{Reply, unless_refused}
use Rattle.modem_flow.specs.Arrival.{arrival, arrival_refusal, arrived_state, decision_of}
use Rattle.modem_flow.specs.Departure.{departed_state, departure, departure_refusal, head_of}
use Rattle.modem_flow.specs.State.{formed}
use Rattle.modem_flow.specs.Tick.{tick, tick_refusal, ticked_state}
use Rattle.modem_flow.specs.declared.State.{State}
use Rattle.modem_flow.proofs.Kept.{arrived-formed, departed-formed, ticked-formed}
use Rattle.modem_flow.proofs.WhenAccepted.{ArrivalAccepted, DepartureAccepted, TickAccepted}
use Rattle.modem_flow.proofs.WhenAccepted.{arrival-accepted, departure-accepted, tick-accepted}
use Rattle.modem_guarantees.specs.Calls.{Call, arrive, depart, reply, update}
use Rattle.modem_guarantees.specs.Refusals.{rows_of}

abbrev pub refusal_of : State → (number : ℕ) → Reply
refusal_of s number = record { answer = refused number; state = s }

abbrev pub arrival_of : State → (clock size u : ℕ) → Reply
arrival_of s clock size u =
    let d = decision_of s size u in record { answer = verdict d.verdict; state = arrived_state s clock size d }

abbrev pub departure_of : State → (handles sizes : List ℕ) (clock : ℕ) → Reply
departure_of s handles sizes clock =
    record { answer = departed (head_of s handles) (head_of s sizes); state = departed_state s clock (head_of s sizes) }

abbrev pub tick_of : State → (clock credits : ℕ) → Reply
tick_of s clock credits = record { answer = ticked; state = ticked_state s clock credits }

-- ── by the number ──

-- 0 where no test of the call holds
abbrev pub number_given : State → Call → ℕ
number_given s c = first_refusal (rows_of s c)

-- the reply where none does
abbrev pub acceptance : State → Call → Reply
acceptance s (arrive row handles sizes clock handle size u) = arrival_of s clock size u
acceptance s (depart row handles sizes clock) = departure_of s handles sizes clock
acceptance s (update row clock credits) = tick_of s clock credits

reply-unless-refused : (s : State) (c : Call) → reply s c ≡ unless_refused (number_given s c) s (acceptance s c)
unfolding arrival arrival_refusal departure departure_refusal tick tick_refusal
reply-unless-refused s (arrive row handles sizes clock handle size u) = refl
reply-unless-refused s (depart row handles sizes clock) = refl
reply-unless-refused s (update row clock credits) = refl

pub by_number : (P : Reply → Type 0) (s : State) (c : Call) →
    ((n : ℕ) → n ≢ 0 → number_given s c ≡ n → P (refusal_of s n)) → (number_given s c ≡ 0 → P (acceptance s c)) → P (reply s c)
by_number P s c some none = rw (reply-unless-refused s c) (go (number_given s c) refl)
  where
    go : (n : ℕ) → number_given s c ≡ n → P (unless_refused n s (acceptance s c))
    go zero e = none e
    go (suc n) e = some (suc n) (omega arith) e

pub acceptance-not-refused : (s : State) (c : Call) (n : ℕ) → (acceptance s c).answer ≢ refused n
acceptance-not-refused s (arrive row handles sizes clock handle size u) n e = let z : ◌≡◌ {A = ℕ} 0 1 = cc in omega arith
acceptance-not-refused s (depart row handles sizes clock) n e = let z : ◌≡◌ {A = ℕ} 0 1 = cc in omega arith
acceptance-not-refused s (update row clock credits) n e = let z : ◌≡◌ {A = ℕ} 0 1 = cc in omega arith

-- an answer that is a refusal gives the number of the rows, and returns the state that was given
pub refused-by-number : (s : State) (c : Call) (n : ℕ) → (reply s c).answer ≡ refused n →
    (n ≢ 0) × (number_given s c ≡ n) × ((reply s c).state ≡ s)
refused-by-number s c n =
    by_number (λ r. r.answer ≡ refused n → (n ≢ 0) × (number_given s c ≡ n) × (r.state ≡ s)) s c
    (λ k some given e. let same : k ≡ n = cc in (omega arith, given ∙ same, refl))
    (λ none e. absurd (acceptance-not-refused s c n e))

pub number-refuses : (s : State) (c : Call) → number_given s c ≢ 0 → (reply s c).answer ≡ refused (number_given s c)
number-refuses s c some =
    by_number (λ r. r.answer ≡ refused (number_given s c)) s c (λ n _ given. ap refused (sym given)) (λ none. absurd (some none))

-- ── with what an accepted call is known to have ──

abbrev pub Accepted : State → Call → Type 0
Accepted s (arrive row handles sizes clock handle size u) = ArrivalAccepted s row (length handles) (length sizes) clock size
Accepted s (depart row handles sizes clock) = DepartureAccepted s row (length handles) (length sizes) clock (head_of s sizes)
Accepted s (update row clock credits) = TickAccepted s row clock

none-given-accepted : (s : State) (c : Call) → number_given s c ≡ 0 → Accepted s c
unfolding arrival_refusal departure_refusal tick_refusal
none-given-accepted s (arrive row handles sizes clock handle size u) e = arrival-accepted s row (length handles) (length sizes) clock size e
none-given-accepted s (depart row handles sizes clock) e = departure-accepted s row (length handles) (length sizes) clock (head_of s sizes) e
none-given-accepted s (update row clock credits) e = tick-accepted s row clock e

pub at-one-reply : (P : Reply → Type 0) (s : State) (c : Call) →
    ((number : ℕ) → P (refusal_of s number)) → (Accepted s c → P (acceptance s c)) → P (reply s c)
at-one-reply P s c r a = by_number P s c (λ n some given. r n) (λ none. a (none-given-accepted s c none))

pub reply-formed : (s : State) → formed s ≡ true → (c : Call) → formed (reply s c).state ≡ true
reply-formed s w c = at-one-reply (λ r. formed r.state ≡ true) s c (λ number. w) (go c)
  where
    go : (c : Call) → Accepted s c → formed (acceptance s c).state ≡ true
    go (arrive row handles sizes clock handle size u) a = arrived-formed s row (length handles) (length sizes) clock size u a
    go (depart row handles sizes clock) a = departed-formed s row (length handles) (length sizes) clock (head_of s sizes) a
    go (update row clock credits) a = ticked-formed s row clock credits a
