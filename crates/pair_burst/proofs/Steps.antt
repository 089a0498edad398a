-- One call of a burst, from what its entry gives.
use mathlib.Core.Path.{◌≡◌, refl, sym, ◌∙◌}
use mathlib.Core.Bool.{Bool, true, false, false≢true}
use mathlib.Core.List.{List}
use Prim.Native.Nat.{ℕ, zero, suc, ◌+◌, ◌-◌, ◌≤◌}
use native.Mathlib.Omega.{arith}
use lib.Dec.{eqb, ltb}
use lib.ListN.{get_or, length}
use Rattle.bursts.specs.Numbers.{clock_at}
use Rattle.bursts.proofs.Answers.{first-low}
use Rattle.bursts.proofs.Steps.{Step}
use Rattle.refusals.specs.Answer.{departed, size_in}
use Rattle.pair_rules.specs.Answer.{Reply}
use Rattle.pair_rules.specs.Queues.{own}
use Rattle.pair_rules.specs.declared.Pair.{Pair}
use Rattle.pair_rules.specs.declared.Which.{Which}
use Rattle.pair_rules.specs.declared.Which.TheVariants.{Intercom, Passengers}
use Rattle.pair_rules.specs.Answer.{unless_refused}
use Rattle.pair_rules.specs.Arrival.{arrival, arrival_refusal, arrived_handles, arrived_sizes}
use Rattle.pair_rules.specs.Departure.{departed_sizes, departure, departure_refusal, departure_refusals, head_handle, head_size}
use Rattle.pair_rules.specs.Tick.{tick, tick_refusal}
use Rattle.refusals.specs.Codes.{code_of}
use Rattle.pair_words.specs.After.{own_after, shared_after}
use Rattle.pair_words.specs.Words.{pair_of, which_of}
use Rattle.pair_burst.specs.Calls.{asked, call_at, request_at}
use Rattle.bursts.specs.Answers.{answer_word}
use Rattle.pair_burst.specs.Burst.{after, answer_to, lent, pair_bursts}

-- ── the word of an answer that hands out nothing is its code ──

abbrev Plain : Reply → Type 0
Plain r = code_of r.answer ≡ answer_word r.answer

plain-unless : (n : ℕ) (p : Pair) (r : Reply) → Plain r → Plain (unless_refused n p r)
plain-unless zero p r e = e
plain-unless (suc n) p r e = omega arith

plain-arrival : (p : Pair) (w : Which) (handles sizes : List ℕ) (clock size : ℕ) (ecn : Bool) (u : ℕ) →
    Plain (arrival p w handles sizes clock size ecn u)
unfolding arrival
plain-arrival p w handles sizes clock size ecn u =
    plain-unless (arrival_refusal p w (length handles) sizes clock size ecn u) p _ (omega arith)

plain-tick : (p : Pair) (w : Which) (clock : ℕ) → Plain (tick p w clock)
unfolding tick
plain-tick p w clock = plain-unless (tick_refusal p w clock) p _ (omega arith)

-- ── the numbers of a departure's answer are small ──

number-low : (p : Pair) (w : Which) (h : ℕ) (sizes : List ℕ) (clock : ℕ) → departure_refusal p w h sizes clock ≤ 9
unfolding departure_refusal
number-low p w h sizes clock = first-low (departure_refusals p w h sizes clock) refl

pub departure-small : (p : Pair) (w : Which) (handles sizes : List ℕ) (clock : ℕ) →
    let a = (departure p w handles sizes clock).answer in (code_of a ≤ 65535) × (size_in a ≤ 65535)
unfolding departure
departure-small p w handles sizes clock =
    go (departure_refusal p w (length handles) sizes clock) (number-low p w (length handles) sizes clock) _
  where
    go : (n : ℕ) → n ≤ 9 → (accepted : Pair) →
        let s = own w p in
        let a = (unless_refused n p (record { answer = departed (head_handle s handles) (head_size s sizes); pair = accepted })).answer in
        (code_of a ≤ 65535) × (size_in a ≤ 65535)
    go zero e accepted = (omega arith, omega arith)
    go (suc n) e accepted = (omega arith, omega arith)

-- a departure that is refused hands out nothing
pub departure-refused : (p : Pair) (w : Which) (handles sizes : List ℕ) (clock : ℕ) →
    let a = (departure p w handles sizes clock).answer in eqb (code_of a) 0 ≡ false → code_of a ≡ answer_word a
unfolding departure
departure-refused p w handles sizes clock = go (departure_refusal p w (length handles) sizes clock) _
  where
    go : (n : ℕ) (accepted : Pair) →
        let s = own w p in
        let a = (unless_refused n p (record { answer = departed (head_handle s handles) (head_size s sizes); pair = accepted })).answer in
        eqb (code_of a) 0 ≡ false → code_of a ≡ answer_word a
    go zero accepted e = absurd (false≢true (sym e))
    go (suc n) accepted e = omega arith

-- ── each kind of call ──

abbrev pub Asked : (second : Bool) (s o t handles sizes calls : List ℕ) (at kind word : ℕ) (s' o' handles' sizes' : List ℕ) → Type 0
Asked second s o t handles sizes calls at kind word s' o' handles' sizes' =
    let w = which_of second in
    let q = lent w s o t handles sizes in
    let c = asked w (request_at kind calls at) in
    (word ≡ answer_word (answer_to q c)) × (lent w s' o' t handles' sizes' ≡ after q c)

pub arrival-step : (second : Bool) (s o t handles sizes calls : List ℕ) (at kind clock : ℕ) → clock ≡ clock_at calls at → ltb kind 2 ≡ true →
    (word : ℕ) (s' o' handles' sizes' : List ℕ) →
    let p = pair_of second s o t in
    let a = arrival p (which_of second) handles sizes clock (get_or calls (at + 3) 0) (eqb kind 1) (get_or calls (at + 4) 0) in
    word ≡ code_of a.answer → s' ≡ shared_after a s → o' ≡ own_after (which_of second) a o →
    handles' ≡ arrived_handles p a.answer handles (get_or calls (at + 2) 0) →
    sizes' ≡ arrived_sizes p (which_of second) a.answer sizes (get_or calls (at + 3) 0) →
    Asked second s o t handles sizes calls at kind word s' o' handles' sizes'
unfolding request_at
arrival-step false s o t handles sizes calls at kind clock c k word s' o' handles' sizes' e es eo eh ez =
    rw (k, ← c) (
      e ∙ plain-arrival (pair_of false s o t) Intercom handles sizes clock (get_or calls (at + 3) 0) (eqb kind 1) (get_or calls (at + 4) 0),
      rw (es, eo, eh, ez),
    )
arrival-step true s o t handles sizes calls at kind clock c k word s' o' handles' sizes' e es eo eh ez =
    rw (k, ← c) (
      e ∙ plain-arrival (pair_of true s o t) Passengers handles sizes clock (get_or calls (at + 3) 0) (eqb kind 1) (get_or calls (at + 4) 0),
      rw (es, eo, eh, ez),
    )

pub departure-step : (second : Bool) (s o t handles sizes calls : List ℕ) (at kind clock : ℕ) → clock ≡ clock_at calls at →
    ltb kind 2 ≡ false → eqb kind 2 ≡ true → (word : ℕ) (s' o' sizes' : List ℕ) →
    let p = pair_of second s o t in
    let a = departure p (which_of second) handles sizes clock in
    word ≡ answer_word a.answer → s' ≡ shared_after a s → o' ≡ own_after (which_of second) a o →
    sizes' ≡ departed_sizes p (which_of second) a.answer sizes →
    Asked second s o t handles sizes calls at kind word s' o' handles sizes'
unfolding request_at
departure-step false s o t handles sizes calls at kind clock c k l word s' o' sizes' e es eo ez = rw (k, l, ← c) (e, rw (es, eo, ez))
departure-step true s o t handles sizes calls at kind clock c k l word s' o' sizes' e es eo ez = rw (k, l, ← c) (e, rw (es, eo, ez))

pub tick-step : (second : Bool) (s o t handles sizes calls : List ℕ) (at kind clock : ℕ) → clock ≡ clock_at calls at →
    ltb kind 2 ≡ false → eqb kind 2 ≡ false → (word : ℕ) (o' : List ℕ) →
    let a = tick (pair_of second s o t) (which_of second) clock in
    word ≡ code_of a.answer → o' ≡ own_after (which_of second) a o →
    Asked second s o t handles sizes calls at kind word s o' handles sizes
unfolding request_at
tick-step false s o t handles sizes calls at kind clock c k l word o' e eo =
    rw (k, l, ← c) (e ∙ plain-tick (pair_of false s o t) Intercom clock, rw eo)
tick-step true s o t handles sizes calls at kind clock c k l word o' e eo =
    rw (k, l, ← c) (e ∙ plain-tick (pair_of true s o t) Passengers clock, rw eo)

-- ── either queue's call ──

module _ (s o t handles sizes calls : List ℕ) (at : ℕ) where
  abbrev kind : ℕ
  kind = get_or calls (at + 5) 0

  pub first_step : ltb kind 4 ≡ true → (word : ℕ) (s' o' handles' sizes' : List ℕ) →
      Asked false s o t handles sizes calls at kind word s' o' handles' sizes' →
      Step pair_bursts (lent Intercom s o t handles sizes) calls at word (lent Intercom s' o' t handles' sizes')
  unfolding call_at
  first_step k word s' o' handles' sizes' (e, f) = rw k (e, f)

  pub second-step : ltb kind 4 ≡ false → ltb kind 8 ≡ true → (word : ℕ) (s' t' handles' sizes' : List ℕ) →
      Asked true s t o handles sizes calls at (kind - 4) word s' t' handles' sizes' →
      Step pair_bursts (lent Intercom s o t handles sizes) calls at word (lent Intercom s' o t' handles' sizes')
  unfolding call_at
  second-step k l word s' t' handles' sizes' (e, f) = rw (k, l) (e, f)

  pub unknown-step : ltb kind 4 ≡ false → ltb kind 8 ≡ false →
      Step pair_bursts (lent Intercom s o t handles sizes) calls at 120 (lent Intercom s o t handles sizes)
  unfolding call_at
  unknown-step k l = rw (k, l) (refl, refl)
