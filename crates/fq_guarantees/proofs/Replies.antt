-- A call is refused by the number that its rows of the table of refusals give, and returns the record that it was given, or it is accepted:
-- what holds in each case holds of every reply.
use mathlib.Core.Path.{◌≡◌, refl, sym, ap, ◌∙◌}
use mathlib.Core.Logic.{◌≢◌}
use Prim.Native.Nat.{ℕ, zero, suc}
use native.Mathlib.Omega.{arith}
use Rattle.refusals.specs.Rows.{first_refusal}
use Rattle.fq_state.specs.State.{State}
use Rattle.fq_rules.specs.Answer.{Reply, refused, unless_refused}
use Rattle.fq_rules.specs.Arrival.{arrival_refusal}
use Rattle.fq_rules.specs.Departure.{departure_refusal}
use Rattle.fq_rules.specs.Tick.{tick_refusal}
use Rattle.fq_guarantees.specs.Acceptance.{acceptance, refusal, reply-unless-refused}
use Rattle.fq_guarantees.specs.Calls.{Call, arrive, depart, reply, update}
use Rattle.fq_guarantees.specs.Refusals.{rows_of}

abbrev pub refusal_of : State → (number : ℕ) → Reply
refusal_of s number = record { answer = refused number; state = s }

-- 0 where no test of the call holds
abbrev pub number_given : State → Call → ℕ
number_given s c = first_refusal (rows_of s c)

by_rows : (s : State) (c : Call) → refusal s c ≡ number_given s c
unfolding arrival_refusal departure_refusal tick_refusal
by_rows s (arrive handles sizes clock key handle size ecn u) = refl
by_rows s (depart handles sizes clock) = refl
by_rows s (update clock) = refl

pub by_number : (P : Reply → Type 0) (s : State) (c : Call) →
    ((n : ℕ) → n ≢ 0 → number_given s c ≡ n → P (refusal_of s n)) →
    (number_given s c ≡ 0 → P (acceptance s c)) →
    P (reply s c)
by_number P s c some none = rw (reply-unless-refused s c, by_rows s c) (go (number_given s c) refl)
  where
    go : (n : ℕ) → number_given s c ≡ n → P (unless_refused n s (acceptance s c))
    go zero e = none e
    go (suc n) e = some (suc n) (omega arith) e

acceptance-not-refused : (s : State) (c : Call) (n : ℕ) → (acceptance s c).answer ≢ refused n
acceptance-not-refused s (arrive handles sizes clock key handle size ecn u) n e = let z : ◌≡◌ {A = ℕ} 0 1 = cc in omega arith
acceptance-not-refused s (depart handles sizes clock) n e = let z : ◌≡◌ {A = ℕ} 0 1 = cc in omega arith
acceptance-not-refused s (update clock) n e = let z : ◌≡◌ {A = ℕ} 0 1 = cc in omega arith

-- an answer that is a refusal gives the number of the rows, and returns the record that was given
pub refused-by-number : (s : State) (c : Call) (n : ℕ) → (reply s c).answer ≡ refused n →
    (n ≢ 0) × (number_given s c ≡ n) × ((reply s c).state ≡ s)
refused-by-number s c n =
    by_number (λ r. r.answer ≡ refused n → (n ≢ 0) × (number_given s c ≡ n) × (r.state ≡ s)) s c
    (λ k some given e. let same : k ≡ n = cc in (omega arith, given ∙ same, refl))
    (λ none e. absurd (acceptance-not-refused s c n e))

pub number-refuses : (s : State) (c : Call) → number_given s c ≢ 0 → (reply s c).answer ≡ refused (number_given s c)
number-refuses s c some =
    by_number (λ r. r.answer ≡ refused (number_given s c)) s c (λ n _ given. ap refused (sym given)) (λ none. absurd (some none))
