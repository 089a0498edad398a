-- On a record that is not well formed every call is refused by 2, or by 20 where it is unknown, and changes nothing.
use mathlib.Core.Path.{◌≡◌, refl, ap, sym, ◌∙◌}
use mathlib.Core.Bool.{Bool, cond, true, false}
use mathlib.Core.List.{List}
use Prim.Native.Nat.{ℕ, ◌+◌}
use native.Mathlib.Omega.{arith}
use lib.Dec.{eqb, ltb}
use lib.ListN.{get_or}
use borrow.Author.Tests.{eqb-false, eqb-true, le-ltb, lt-ltb, ltb-false, ltb-true}
use Rattle.fq_state.specs.State.{State}
use Rattle.fq_state.specs.WellFormed.{well_formed}
use Rattle.fq_rules.specs.Answer.{Reply, unless_refused}
use Rattle.fq_rules.specs.Arrival.{arrival_refusal}
use Rattle.fq_rules.specs.Departure.{departure_refusal}
use Rattle.fq_rules.specs.Tick.{tick_refusal}
use Rattle.fq_guarantees.specs.Acceptance.{acceptance, refusal, reply-unless-refused}
use Rattle.fq_guarantees.specs.Calls.{Call, arrive, depart, reply, update}
use Rattle.fq_guarantees.specs.Handed.{ask_arrival, ask_departure, ask_tick}
use Rattle.fq_guarantees.proofs.Replies.{refusal_of}
use Rattle.fq_burst.specs.Calls.{asked, call_at, call_by, unknown}
use Rattle.fq_burst.specs.Calls as of-burst
use Rattle.fq_burst.specs.Burst.{Lent, after, answer_to, answer_word, state_in}

by_2 : (s : State) (c : Call) → well_formed s ≡ false → refusal s c ≡ 2
unfolding arrival_refusal departure_refusal tick_refusal
by_2 s (arrive handles sizes clock key handle size ecn u) e = rw e refl
by_2 s (depart handles sizes clock) e = rw e refl
by_2 s (update clock) e = rw e refl

refused-by-2 : (s : State) (c : Call) → well_formed s ≡ false → reply s c ≡ refusal_of s 2
refused-by-2 s c e = reply-unless-refused s c ∙ ap (λ n. unless_refused n s (acceptance s c)) (by_2 s c e)

abbrev word_for : of-burst.Call → ℕ
word_for (asked r) = 102
word_for unknown = 120

refused-step : (q : Lent) (c : of-burst.Call) → well_formed (state_in q) ≡ false → (word_for c ≡ answer_word (answer_to q c)) × (q ≡ after q c)
refused-step q (asked (ask_arrival clock key handle size ecn u)) e =
    let r = refused-by-2 (state_in q) (arrive q.handles q.sizes clock key handle size ecn u) e in
    (sym (ap (λ (r : Reply). answer_word r.answer) r), rw r refl)
refused-step q (asked (ask_departure clock)) e =
    let r = refused-by-2 (state_in q) (depart q.handles q.sizes clock) e in
    (sym (ap (λ (r : Reply). answer_word r.answer) r), rw r refl)
refused-step q (asked (ask_tick clock)) e =
    let r = refused-by-2 (state_in q) (update clock) e in (sym (ap (λ (r : Reply). answer_word r.answer) r), rw r refl)
refused-step q unknown e = (refl, refl)

word-by : (k : ℕ) (calls : List ℕ) (at : ℕ) → cond (ltb k 4) 102 120 ≡ word_for (call_by k calls at)
word-by k calls at = go (ltb k 2) refl (eqb k 2) refl (eqb k 3) refl
  where
    go : (a : Bool) → ltb k 2 ≡ a → (b : Bool) → eqb k 2 ≡ b → (d : Bool) → eqb k 3 ≡ d →
        cond (ltb k 4) 102 120 ≡ word_for (call_by k calls at)
    go true e b f d g = let h = ltb-true k 2 e in rw (e, lt-ltb k 4 (omega arith)) refl
    go false e true f d g = rw (e, f, lt-ltb k 4 (omega (arith, eqb-true k 2 f))) refl
    go false e false f true g = rw (e, f, g, lt-ltb k 4 (omega (arith, eqb-true k 3 g))) refl
    go false e false f false g =
        rw (e, f, g, le-ltb k 4 (omega (arith, ltb-false k 2 e, eqb-false k 2 f, eqb-false k 3 g))) refl

word_at : (calls : List ℕ) (at : ℕ) → cond (ltb (get_or calls (at + 5) 0) 4) 102 120 ≡ word_for (call_at calls at)
unfolding call_at
word_at calls at = word-by (get_or calls (at + 5) 0) calls at

pub malformed-step : (q : Lent) (calls : List ℕ) (at : ℕ) → well_formed (state_in q) ≡ false →
    (cond (ltb (get_or calls (at + 5) 0) 4) 102 120 ≡ answer_word (answer_to q (call_at calls at))) × (q ≡ after q (call_at calls at))
malformed-step q calls at e =
    let r = refused-step q (call_at calls at) e in (word_at calls at ∙ r.0, r.1)
