-- The numbers that a call gives, by the code of its answer.
use mathlib.Core.Path.{◌≡◌, refl}
use mathlib.Core.Bool.{Bool, true, false, cond}
use mathlib.Core.List.{List}
use Prim.Native.Nat.{ℕ, zero, suc, ◌+◌, ◌-◌, ◌*◌, ◌/◌, ◌%◌, ◌<◌, ◌≤◌}
use native.Mathlib.Omega.{arith}
use lib.Dec.{eqb, leb}
use lib.ListN.{length}
use borrow.Author.Tests.{le-leb, lt-leb}
use Rattle.pie.specs.Verdicts.{place_of}
use Rattle.pie.proofs.Counts.{place-lt}
use Rattle.ring.specs.declared.State.{State}
use Rattle.refusals.specs.Answer.{Answer, departed, handle_in, made, refused, size_in, ticked, verdict}
use Rattle.ring.specs.Answer.{Reply, unless_refused}
use Rattle.ring.specs.Arrival.{arrival, arrival_refusal, stored}
use Rattle.ring.specs.Departure.{departure, departure_refusal, head_of}
use Rattle.ring.specs.Tick.{tick, tick_refusal}
use Rattle.refusals.specs.Codes.{code_of}
use Rattle.ring_words.specs.Codes.{words_after}
use Rattle.ring_words.specs.Words.{state_of}
use Rattle.log_codec.specs.declared.Record.{Record}
use Rattle.ring_guarantees.proofs.Replies.{arrival_of, departure_of, tick_of}
use Rattle.bursts.specs.Answers.{answer_word}
use Rattle.ring_words.specs.Lent.{Lent, leaves, lent, reply_to}
use Rattle.ring_steps.proofs.Answers.{departure-small}
use Rattle.replay.specs.Agreement.{refusal_in, request_of, verdict_in}
use Rattle.std.specs.Prelude.{Result, Ok, Err, IfErr}
use Rattle.replay.specs.Told.{refusal_told, verdict_told}

abbrev pub called_by : (code verdict : ℕ) → Result ℕ ℕ
called_by code v = cond (leb 100 code) (Err (code - 100)) (Ok v)

-- an answer that is no refusal has this verdict, and a refusal has a number above 0
abbrev Says : Answer → ℕ → Type 0
Says (refused number) v = 0 < number
Says made v = v ≡ 0
Says (verdict p) v = v ≡ place_of p
Says (departed handle size) v = v ≡ handle
Says ticked v = v ≡ 0

-- refusal and verdict are those of the answer
abbrev Tells : Result ℕ ℕ → Answer → Type 0
Tells c a = (refusal_told c ≡ refusal_in a) × (verdict_told c ≡ verdict_in a) × IfErr c (λ n. 0 < n)

told : (a : Answer) (v : ℕ) → Says a v → Tells (called_by (code_of a) v) a
told (refused number) v h = rw (le-leb 100 (100 + number) (omega arith)) (omega arith, refl, omega arith)
told made v h = (refl, h, tt)
told (verdict p) v h = rw (lt-leb 100 (place_of p) (omega (arith, place-lt p))) (refl, h, tt)
told (departed handle size) v h = (refl, h, tt)
told ticked v h = (refl, h, tt)

-- ── the verdict of each call's reply ──

says-unless : (n : ℕ) (s : State) (r : Reply) (v : ℕ) → Says r.answer v → Says (unless_refused n s r).answer v
says-unless zero s r v p = p
says-unless (suc n) s r v p = omega arith

coded-unless : (n : ℕ) (s : State) (r : Reply) → Says r.answer (code_of r.answer) →
    let a = (unless_refused n s r).answer in Says a (code_of a)
coded-unless zero s r p = p
coded-unless (suc n) s r p = omega arith

arrival-says : (s : State) (handles sizes : List ℕ) (clock size : ℕ) (ecn : Bool) (u : ℕ) →
    let a = (arrival s handles sizes clock size ecn u).answer in Says a (code_of a)
unfolding arrival
arrival-says s handles sizes clock size ecn u =
    coded-unless (arrival_refusal s (length handles) (length sizes) clock size) s (arrival_of s clock size ecn u) refl

tick-says : (s : State) (clock : ℕ) → Says (tick s clock).answer 0
unfolding tick
tick-says s clock = says-unless (tick_refusal s clock) s (tick_of s clock) 0 refl

high_part : (size handle : ℕ) → size ≤ 65535 → (0 + 65536 * size + 4294967296 * handle) / 4294967296 ≡ handle
high_part size handle h = omega arith

low_part : (code size handle : ℕ) → code ≤ 65535 → (code + 65536 * size + 4294967296 * handle) % 65536 ≡ code
low_part code size handle h = omega arith

departure-says : (s : State) (handles sizes : List ℕ) (clock : ℕ) →
    let a = (departure s handles sizes clock).answer in Says a (answer_word a / 4294967296)
unfolding departure
departure-says s handles sizes clock =
    go (departure_refusal s (length handles) (length sizes) clock (head_of s sizes)) (departure-small s handles sizes clock).1
  where
    go : (n : ℕ) → size_in (unless_refused n s (departure_of s handles sizes clock)).answer ≤ 65535 →
        let a = (unless_refused n s (departure_of s handles sizes clock)).answer in Says a (answer_word a / 4294967296)
    go zero h = high_part (head_of s sizes) (head_of s handles) h
    go (suc n) h = omega arith

-- ── each kind of record ──

-- the call of a record on a queue, and what it leaves
abbrev pub Made : Lent → Record → Result ℕ ℕ → Lent → Type 0
Made q r c next =
    let a = reply_to q (request_of r) in
    (refusal_told c ≡ refusal_in a.answer) × (verdict_told c ≡ verdict_in a.answer) × (next ≡ leaves q (request_of r)) × IfErr c (λ n. 0 < n)

module _ (w handles sizes : List ℕ) (r : Record) (c : Result ℕ ℕ) where
  abbrev arrives : Reply
  arrives = arrival (state_of w) handles sizes r.clock r.size (eqb r.ecn 1) r.u

  pub arrival-called : eqb r.kind 97 ≡ true → (code : ℕ) (w' handles' sizes' : List ℕ) →
      code ≡ code_of arrives.answer → w' ≡ words_after arrives w → handles' ≡ stored (state_of w) arrives.answer handles r.handle →
      sizes' ≡ stored (state_of w) arrives.answer sizes r.size → c ≡ called_by code code →
      Made (lent w handles sizes) r c (lent w' handles' sizes')
  arrival-called k code w' handles' sizes' e f g h m =
      let t = told arrives.answer (code_of arrives.answer)
      (arrival-says (state_of w) handles sizes r.clock r.size (eqb r.ecn 1) r.u) in
      rw (k, m, e) (t.0, t.1, rw (f, g, h), t.2)

  abbrev departs : Reply
  departs = departure (state_of w) handles sizes r.clock

  pub departure-called : eqb r.kind 97 ≡ false → eqb r.kind 100 ≡ true → (word : ℕ) (w' : List ℕ) →
      word ≡ answer_word departs.answer → w' ≡ words_after departs w → c ≡ called_by (word % 65536) (word / 4294967296) →
      Made (lent w handles sizes) r c (lent w' handles sizes)
  departure-called k l word w' e f m =
      let small = departure-small (state_of w) handles sizes r.clock in
      let low = low_part (code_of departs.answer) (size_in departs.answer) (handle_in departs.answer) small.0 in
      let t = told departs.answer (answer_word departs.answer / 4294967296) (departure-says (state_of w) handles sizes r.clock) in
      rw (k, l, m, e, low) (t.0, t.1, rw f, t.2)

  pub tick-called : eqb r.kind 97 ≡ false → eqb r.kind 100 ≡ false → (code : ℕ) (w' : List ℕ) →
      code ≡ code_of (tick (state_of w) r.clock).answer → w' ≡ words_after (tick (state_of w) r.clock) w → c ≡ called_by code 0 →
      Made (lent w handles sizes) r c (lent w' handles sizes)
  tick-called k l code w' e f m =
      let t = told (tick (state_of w) r.clock).answer 0 (tick-says (state_of w) r.clock) in
      rw (k, l, m, e) (t.0, t.1, rw f, t.2)
