-- A call is refused by the number that its rows of the table of refusals give, and returns the records that it was given, or it is
-- accepted: what holds in each case holds of every reply.
use mathlib.Core.Path.{◌≡◌, refl, sym, ap, ◌∙◌}
use mathlib.Core.Bool.{Bool, true, false}
use mathlib.Core.Logic.{◌≢◌}
use mathlib.Core.List.{List, [], ◌∷◌, ◌++◌}
use Prim.Native.Nat.{ℕ, zero, suc}
use native.Mathlib.Omega.{arith}
use lib.ListN.{length}
use Rattle.refusals.specs.Answer.{Answer, departed, refused, ticked, verdict}
use Rattle.refusals.specs.Rows.{first_refusal}
use Rattle.store.specs.Put.{free_place}
use Rattle.store.specs.Take.{store_after_take}
use Rattle.ring.specs.Calls.{Call, arrive, depart, update}
use Rattle.pair_rules.specs.Answer.{Reply}
use Rattle.pair_rules.specs.Facing.{facing}
use Rattle.pair_rules.specs.Queues.{other, own, paired, storing}
use Rattle.pair_rules.specs.WellFormed.{well_formed}
use Rattle.pair_rules.specs.declared.Pair.{Pair}
use Rattle.pair_rules.specs.declared.Shared.{Shared}
use Rattle.pair_rules.specs.declared.State.{State}
use Rattle.pair_rules.specs.declared.Which.{Which}
use Rattle.pair_rules.specs.declared.Which.TheVariants.{Intercom}
use Rattle.pair_rules.proofs.Symmetry.{own-paired, seen}
use Rattle.pair_rules.specs.Answer.{unless_refused}
use Rattle.pair_rules.specs.Arrival.{arrival, arrival_refusal, arrived_state, arrived_store, freed_refused, verdict_of}
use Rattle.pair_rules.specs.Departure.{departed_state, departure, departure_refusal, head_handle, head_size}
use Rattle.pair_rules.specs.Tick.{tick, tick_refusal, ticked_state}
use Rattle.pair_rules.proofs.Replies.{arrival-reply, departure-reply, early, tick-reply}
use Rattle.pair_rules.proofs.WhenAccepted.{ArrivalAccepted, DepartureAccepted, TickAccepted, arrival-accepted, departure-accepted, tick-accepted}
use Rattle.pair_guarantees.specs.Calls.{reply}
use Rattle.pair_guarantees.specs.Refusals.{rows_of}

-- ── by the number ──

abbrev pub refusal_of : Pair → (number : ℕ) → Reply
refusal_of p number = record { answer = refused number; pair = p }

-- 0 where no test of the call holds
abbrev pub number_given : Pair → Which → Call → ℕ
number_given p w c = first_refusal (rows_of p w c)

-- the reply where none does
abbrev pub acceptance : Pair → Which → Call → Reply
acceptance p w (arrive handles sizes clock handle size ecn u) =
    let v = verdict_of p w size ecn u in
    record {
      answer = verdict v;
      pair =
          paired w
          (storing p.shared (arrived_store p.shared.store sizes v))
          (arrived_state (own w p) clock size (free_place p.shared.store) v)
          (other w p);
    }
acceptance p w (depart handles sizes clock) =
    let s = own w p in
    record {
      answer = departed (head_handle s handles) (head_size s sizes);
      pair =
          paired w
          (storing p.shared (store_after_take p.shared.store s.ends.head))
          (departed_state s sizes clock (head_size s sizes))
          (other w p);
    }
acceptance p w (update clock) = record { answer = ticked; pair = paired w p.shared (ticked_state (own w p) clock) (other w p) }

reply-unless-refused : (p : Pair) (w : Which) (c : Call) → reply p w c ≡ unless_refused (number_given p w c) p (acceptance p w c)
unfolding arrival arrival_refusal departure departure_refusal tick tick_refusal
reply-unless-refused p w (arrive handles sizes clock handle size ecn u) = refl
reply-unless-refused p w (depart handles sizes clock) = refl
reply-unless-refused p w (update clock) = refl

pub by_number : (P : Reply → Type 0) (p : Pair) (w : Which) (c : Call) →
    ((n : ℕ) → n ≢ 0 → number_given p w c ≡ n → P (refusal_of p n)) →
    (number_given p w c ≡ 0 → P (acceptance p w c)) →
    P (reply p w c)
by_number P p w c some none = rw (reply-unless-refused p w c) (go (number_given p w c) refl)
  where
    go : (n : ℕ) → number_given p w c ≡ n → P (unless_refused n p (acceptance p w c))
    go zero e = none e
    go (suc n) e = some (suc n) (omega arith) e

acceptance-not-refused : (p : Pair) (w : Which) (c : Call) (n : ℕ) → (acceptance p w c).answer ≢ refused n
acceptance-not-refused p w (arrive handles sizes clock handle size ecn u) n e = let z : ◌≡◌ {A = ℕ} 0 1 = cc in omega arith
acceptance-not-refused p w (depart handles sizes clock) n e = let z : ◌≡◌ {A = ℕ} 0 1 = cc in omega arith
acceptance-not-refused p w (update clock) n e = let z : ◌≡◌ {A = ℕ} 0 1 = cc in omega arith

-- an answer that is a refusal gives the number of the rows, and returns the records that were given
pub refused-by-number : (p : Pair) (w : Which) (c : Call) (n : ℕ) → (reply p w c).answer ≡ refused n →
    (n ≢ 0) × (number_given p w c ≡ n) × ((reply p w c).pair ≡ p)
refused-by-number p w c n =
    by_number (λ r. r.answer ≡ refused n → (n ≢ 0) × (number_given p w c ≡ n) × (r.pair ≡ p)) p w c
    (λ k some given e. let same : k ≡ n = cc in (omega arith, given ∙ same, refl))
    (λ none e. absurd (acceptance-not-refused p w c n e))

pub number-refuses : (p : Pair) (w : Which) (c : Call) → number_given p w c ≢ 0 → (reply p w c).answer ≡ refused (number_given p w c)
number-refuses p w c some =
    by_number (λ r. r.answer ≡ refused (number_given p w c)) p w c (λ n _ given. ap refused (sym given)) (λ none. absurd (some none))

-- ── the called queue's answer and state, with what an accepted call is known to have ──

first-none : (rows more : List (ℕ × Bool)) → first_refusal (rows ++ more) ≡ 0 → first_refusal rows ≡ 0
first-none [] more e = refl
first-none ((number, true) ∷ rows) more e = e
first-none ((number, false) ∷ rows) more e = first-none rows more e

module _ (w : Which) (s : Shared) (o t : State) (P : Call → Answer → State → Type 0) where
  abbrev At : Call → Reply → Type 0
  At c r = P c r.answer (own w r.pair)

  -- the records as the called queue sees them
  abbrev f : Shared
  f = facing w s

  pub at-own-reply : ((c : Call) (n : ℕ) → P c (refused n) o) →
      ((handles sizes : List ℕ) (clock handle size : ℕ) (ecn : Bool) (u : ℕ) →
      (well_formed (seen w s o t) ≡ true) × ArrivalAccepted f.slots f.store o (length handles) (length sizes) clock size →
      let v = verdict_of (seen w s o t) Intercom size ecn u in
      P (arrive handles sizes clock handle size ecn u) (verdict v) (arrived_state o clock size (free_place s.store) v)) →
      ((handles sizes : List ℕ) (clock : ℕ) → DepartureAccepted f.slots f.store o (length handles) sizes clock →
      P (depart handles sizes clock) (departed (head_handle o handles) (head_size o sizes))
      (departed_state o sizes clock (head_size o sizes))) →
      ((clock : ℕ) → TickAccepted f.slots f.store o clock → P (update clock) ticked (ticked_state o clock)) →
      (c : Call) → At c (reply (paired w s o t) w c)
  at-own-reply r a d k c = go c
    where
      unless : (c : Call) (n : ℕ) (accepted : Answer) (s' : Shared) (o' : State) → (n ≡ 0 → P c accepted o') →
          At c (unless_refused n (paired w s o t) (record { answer = accepted; pair = paired w s' o' t }))
      unless c zero accepted s' o' h = rw (own-paired w s' o' t) (h refl)
      unless c (suc n) accepted s' o' h = rw (own-paired w s o t) (r c (suc n))

      go : (c : Call) → At c (reply (paired w s o t) w c)
      go (arrive handles sizes clock handle size ecn u) =
          let v = verdict_of (seen w s o t) Intercom size ecn u in
          let rows = early f o t (length handles) (length sizes) clock size in
          let last : List (ℕ × Bool) = (9, freed_refused s sizes v) ∷ [] in
          rw (arrival-reply w s o t handles sizes clock size ecn u)
          (unless (arrive handles sizes clock handle size ecn u) (first_refusal (rows ++ last)) (verdict v) _ _
          (λ e. a handles sizes clock handle size ecn u
          (arrival-accepted Intercom f o t (length handles) (length sizes) clock size f refl (first-none rows last e))))
      go (depart handles sizes clock) =
          rw (departure-reply w s o t handles sizes clock)
          (unless (depart handles sizes clock) (departure_refusal (seen w s o t) Intercom (length handles) sizes clock) _ _ _
          (λ e. d handles sizes clock (departure-accepted Intercom f o t (length handles) sizes clock f refl e)))
      go (update clock) =
          rw (tick-reply w s o t clock)
          (unless (update clock) (tick_refusal (seen w s o t) Intercom clock) _ _ _
          (λ e. k clock (tick-accepted Intercom f o t clock f refl e)))
