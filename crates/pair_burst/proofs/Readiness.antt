-- A call leaves records that are ready for one arrival less.
use mathlib.Core.Path.{◌≡◌, refl, sym, ap, ◌∙◌}
use mathlib.Core.Bool.{Bool, true}
use mathlib.Core.List.{List}
use Prim.Native.Nat.{ℕ, zero, suc, ◌+◌, ◌≤◌}
use native.Mathlib.Omega.{arith}
use lib.ListN.{get_or, length}
use Rattle.pie.specs.Verdicts.{raised, total}
use Rattle.pie.proofs.Counts.{length-raised, total-raised}
use Rattle.pie.specs.declared.Verdict.{Verdict}
use Rattle.refusals.specs.Answer.{departed, ticked, verdict}
use Rattle.calls.specs.Requests.{Request, ask_arrival, ask_departure, ask_tick}
use Rattle.pair_rules.specs.Answer.{Reply}
use Rattle.pair_rules.specs.Queues.{other, own, paired}
use Rattle.pair_rules.specs.WellFormed.{well_formed}
use Rattle.pair_rules.specs.declared.Pair.{Pair}
use Rattle.pair_rules.specs.declared.Shared.{Shared}
use Rattle.pair_rules.specs.declared.State.{State}
use Rattle.pair_rules.specs.declared.Which.{Which}
use Rattle.pair_rules.specs.declared.Which.TheVariants.{Intercom, Passengers}
use Rattle.pair_rules.specs.Answer.{unless_refused}
use Rattle.pair_rules.specs.Arrival.{arrival, arrival_refusal, arrived_state, verdict_of}
use Rattle.pair_rules.specs.Departure.{departed_state, departure, departure_refusal}
use Rattle.pair_rules.specs.Tick.{tick, tick_refusal, ticked_state}
use Rattle.pair_guarantees.specs.Handed.{reply_to, returned}
use Rattle.pair_words.specs.After.{own_after}
use Rattle.pie_words.proofs.Flags.{flag-says}
use Rattle.laws.proofs.Written.{written_out}
use Rattle.pair_words.specs.Words.{shared_of, shared_words, state_of, state_words}
use Rattle.pair_burst.specs.Calls.{Call, asked, unknown}
use Rattle.pair_burst.specs.Burst.{Lent, after, lent, other_words, own_words, queues_of, shared_left}
use Rattle.pair_burst.specs.Fitting.{Ready}
use Rattle.pair_burst.proofs.Formed.{reply-formed}
use Rattle.pair_burst.proofs.Kept.{after-long}

pub ready-one : (q : Lent) (n : ℕ) → 1 ≤ n → Ready q n → Ready q 1
ready-one q n some (a, b, c, formed, h, z, r, s) = (a, b, c, formed, h, z, omega arith, omega arith)

-- ── words hold the record that was written to them ──

back : (w : List ℕ) (s : State) → length s.verdicts ≡ 5 → state_of (state_words w s) ≡ s
unfolding state_of state_words
back w s h = rw (flag-says (get_or w 9 0) s.pie.rate.measuring, ← (written_out 5 s.verdicts h))

shared_back : (s : Shared) → shared_of (shared_words s) ≡ s
unfolding shared_of shared_words
shared_back s = refl

state-long : (w : List ℕ) (s : State) → length (state_words w s) ≡ 21
unfolding state_words
state-long w s = refl

shared_long : (s : Shared) → length (shared_words s) ≡ 6
unfolding shared_words
shared_long s = refl

five : (w : Which) (q : Lent) → length (own w (queues_of q).pair).verdicts ≡ 5
unfolding state_of
five Intercom q = refl
five Passengers q = refl

-- ── what a reply leaves in the words ──

pub record Left (w : Which) (p : Pair) (s' o' : List ℕ) (a : Pair) : Type 0 where
  pub shared-six : length s' ≡ 6
  pub shared-is : shared_of s' ≡ a.shared
  pub own-long : length o' ≡ 21
  pub own_is : state_of o' ≡ own w a
  pub other-is : other w a ≡ other w p
  pub slots_same : a.shared.slots ≡ p.shared.slots
  pub total-high : total (own w a).verdicts ≤ total (own w p).verdicts + 1

-- a refused call leaves them
stays : (w : Which) (q : Lent) → length q.shared ≡ 6 → length (own_words w q) ≡ 21 →
    Left w (queues_of q).pair q.shared (own_words w q) (queues_of q).pair
stays Intercom q ls lo =
    record { shared-six = ls; shared-is = refl; own-long = lo; own_is = refl; other-is = refl; slots_same = refl; total-high = omega arith }
stays Passengers q ls lo =
    record { shared-six = ls; shared-is = refl; own-long = lo; own_is = refl; other-is = refl; slots_same = refl; total-high = omega arith }

-- an accepted one writes the called queue's, and a store
writes : (w : Which) (p : Pair) (s' ow : List ℕ) (sh : Shared) (s : State) → length s' ≡ 6 → shared_of s' ≡ sh →
    sh.slots ≡ p.shared.slots → length s.verdicts ≡ 5 → total s.verdicts ≤ total (own w p).verdicts + 1 →
    Left w p s' (state_words ow (own w (paired w sh s (other w p)))) (paired w sh s (other w p))
writes Intercom p s' ow sh s ls is slots v high =
    record {
      shared-six = ls;
      shared-is = is;
      own-long = state-long ow s;
      own_is = back ow s v;
      other-is = refl;
      slots_same = slots;
      total-high = high;
    }
writes Passengers p s' ow sh s ls is slots v high =
    record {
      shared-six = ls;
      shared-is = is;
      own-long = state-long ow s;
      own_is = back ow s v;
      other-is = refl;
      slots_same = slots;
      total-high = high;
    }

shared-in : (w : Which) (sh : Shared) (o t : State) → (paired w sh o t).shared ≡ sh
shared-in Intercom sh o t = refl
shared-in Passengers sh o t = refl

abbrev LeftBy : Which → Lent → Request → Reply → Type 0
LeftBy w q r a = Left w (queues_of q).pair (shared_left r a q.shared) (own_after w a (own_words w q)) a.pair

module _ (w : Which) (q : Lent) (ls : length q.shared ≡ 6) (lo : length (own_words w q) ≡ 21) where
  abbrev p : Pair
  p = (queues_of q).pair

  tick-left : (clock n : ℕ) → LeftBy w q (ask_tick clock)
      (unless_refused n p (record { answer = ticked; pair = paired w p.shared (ticked_state (own w p) clock) (other w p) }))
  unfolding ticked_state
  tick-left clock zero =
      writes w p q.shared (own_words w q) p.shared (ticked_state (own w p) clock) ls refl refl (five w q) (omega arith)
  tick-left clock (suc n) = stays w q ls lo

  departure-left : (clock n handle size : ℕ) (sh : Shared) (s : State) → sh.slots ≡ p.shared.slots → s.verdicts ≡ (own w p).verdicts →
      LeftBy w q (ask_departure clock) (unless_refused n p (record { answer = departed handle size; pair = paired w sh s (other w p) }))
  departure-left clock zero handle size sh s slots same =
      let e = shared-in w sh s (other w p) in
      rw e (writes w p (shared_words sh) (own_words w q) sh s (shared_long sh) (shared_back sh) slots
      (ap length same ∙ five w q) (omega (arith, ap total same)))
  departure-left clock (suc n) handle size sh s slots same = stays w q ls lo

  arrival-left : (clock handle size : ℕ) (ecn : Bool) (u n : ℕ) (v : Verdict) (sh : Shared) (s : State) → sh.slots ≡ p.shared.slots →
      s.verdicts ≡ raised (own w p).verdicts v →
      LeftBy w q (ask_arrival clock handle size ecn u) (unless_refused n p (record { answer = verdict v; pair = paired w sh s (other w p) }))
  arrival-left clock handle size ecn u zero v sh s slots same =
      let e = shared-in w sh s (other w p) in
      rw e (writes w p (shared_words sh) (own_words w q) sh s (shared_long sh) (shared_back sh) slots
      (ap length same ∙ length-raised (own w p).verdicts v ∙ five w q)
      (omega (arith, ap total same, total-raised (own w p).verdicts v)))
  arrival-left clock handle size ecn u (suc n) v sh s slots same = stays w q ls lo

  reply-left : (r : Request) → LeftBy w q r (reply_to (queues_of q) w r)
  unfolding arrival departure tick arrived_state departed_state
  reply-left (ask_arrival clock handle size ecn u) =
      arrival-left clock handle size ecn u (arrival_refusal p w (length q.handles) q.sizes clock size ecn u)
      (verdict_of p w size ecn u) _ _ refl refl
  reply-left (ask_departure clock) = departure-left clock (departure_refusal p w (length q.handles) q.sizes clock) _ _ _ _ refl refl
  reply-left (ask_tick clock) = tick-left clock (tick_refusal p w clock)

-- ── readiness ──

ready-left : (w : Which) (q : Lent) (s' o' h z : List ℕ) (a : Pair) (n : ℕ) → Left w (queues_of q).pair s' o' a → well_formed a ≡ true →
    length h ≡ length q.handles → length z ≡ length q.sizes → Ready q (suc n) → Ready (lent w s' o' (other_words w q) h z) n
ready-left Intercom q s' o' h z a n k formed eh ez (ls, li, lp, _, th, tz, ri, rp) =
    rw (k.shared-is, k.own_is, ← k.other-is) (
      k.shared-six,
      k.own-long,
      lp,
      formed,
      eh ∙ th ∙ sym k.slots_same,
      ez ∙ tz ∙ sym k.slots_same,
      omega (arith, k.total-high),
      omega (arith, ap (λ (s : State). total s.verdicts) k.other-is),
    )
ready-left Passengers q s' o' h z a n k formed eh ez (ls, li, lp, _, th, tz, ri, rp) =
    rw (k.shared-is, k.own_is, ← k.other-is) (
      k.shared-six,
      li,
      k.own-long,
      formed,
      eh ∙ th ∙ sym k.slots_same,
      ez ∙ tz ∙ sym k.slots_same,
      omega (arith, ap (λ (s : State). total s.verdicts) k.other-is),
      omega (arith, k.total-high),
    )

own-words-long : (w : Which) (q : Lent) (n : ℕ) → Ready q n → length (own_words w q) ≡ 21
own-words-long Intercom q n r = r.1
own-words-long Passengers q n r = r.2

tables-long : (w : Which) (s o t h z : List ℕ) → ((lent w s o t h z).handles ≡ h) × ((lent w s o t h z).sizes ≡ z)
tables-long Intercom s o t h z = (refl, refl)
tables-long Passengers s o t h z = (refl, refl)

pub ready-kept : (q : Lent) (c : Call) (n : ℕ) → Ready q (suc n) → Ready (after q c) n
ready-kept q (asked w r) n k =
    let a = reply_to (queues_of q) w r in
    let next = returned (queues_of q) w r a in
    let long = after-long q (asked w r) in
    let e = tables-long w (shared_left r a q.shared) (own_after w a (own_words w q)) (other_words w q) next.handles next.sizes in
    ready-left w q _ _ _ _ a.pair n (reply-left w q k.0 (own-words-long w q (suc n) k) r) (reply-formed (queues_of q) w r k.3)
    (sym (ap length e.0) ∙ long.0) (sym (ap length e.1) ∙ long.1) k
ready-kept q unknown n (ls, li, lp, formed, h, z, ri, rp) = (ls, li, lp, formed, h, z, omega arith, omega arith)
