-- Question 3 for C calls, from the same over states.
use mathlib.Core.Path.{◌≡◌, refl, sym, ◌∙◌}
use mathlib.Core.Bool.{false, ◌&&◌}
use mathlib.Core.List.{List, [], ◌∷◌}
use Prim.Native.Nat.{ℕ, zero, suc, ◌+◌, ◌<◌}
use native.Mathlib.Omega.{arith}
use borrow.Author.Tests.{ne_eqb}
use lib.Dec.{eqb}
use Rattle.pie.specs.Verdicts.{place_of}
use Rattle.pie.specs.declared.Verdict.{Verdict}
use Rattle.pie.specs.declared.Verdict.TheVariants.{Enqueued, Marked, DroppedBytes, DroppedSlots, DroppedEarly}
use Rattle.pie.proofs.Counts.{place-lt}
use Rattle.ring.specs.Fresh.{settings_of}
use Rattle.refusals.specs.Codes.{code_of}
use Rattle.ring_words.specs.Words.{state_of}
use Rattle.ring_words.proofs.Words.{count_word}
use Rattle.ring_guarantees.specs.Conservation.{Conserved, is_verdict, times_answered}
use Rattle.calls.specs.Requests.{Request, ask_arrival, ask_departure, ask_tick}
use Rattle.ring.specs.Calls.{answer_of}
use Rattle.ring_guarantees.proofs.Conservation.{conservation}
use Rattle.ring_guarantees.proofs.Replies.{at-one-reply}
use Rattle.ring_c_guarantees.specs.CConservation.{CConservation, CConserved, arrivals_answered, is_arrival}
use Rattle.ring_words.specs.Lent.{Lent, call_to, code_to, leaves}
use Rattle.ring_c_guarantees.specs.CHanded.{admitted_in, final_queue, fresh_queue, handed_out_in, log_of}
use Rattle.ring_words.specs.Lent.{queue_of}
use Rattle.ring_c_guarantees.specs.Fields.{verdicts_in}
use Rattle.ring_c_guarantees.proofs.CFirstInFirstOut.{fresh-made}
use Rattle.ring_c_guarantees.proofs.Codes.{code-refused}
use Rattle.ring_c_guarantees.proofs.RunsJoined.{answers_to, run-same, run_of}

-- ── the numbers of arrivals ──

answered-same : (v : Verdict) (q : Lent) (r : Request) →
    is_arrival r && eqb (place_of v) (code_to q r) ≡ is_verdict v (answer_of (queue_of q) r)
answered-same v q (ask_arrival clock handle size ecn u) =
    let r = ask_arrival clock handle size ecn u in
    at-one-reply (λ p. eqb (place_of v) (code_of p.answer) ≡ is_verdict v p.answer) (state_of q.words) (call_to q r)
    (λ number. not-refused v number)
    (λ a. refl)
  where
    not-refused : (v : Verdict) (number : ℕ) → eqb (place_of v) (100 + number) ≡ false
    not-refused v number = ne_eqb (place_of v) (100 + number) (λ e. omega (arith, place-lt v))
answered-same v q (ask_departure clock) =
    at-one-reply (λ p. false ≡ is_verdict v p.answer) (state_of q.words) (call_to q (ask_departure clock)) (λ number. refl) (λ a. refl)
answered-same v q (ask_tick clock) =
    at-one-reply (λ p. false ≡ is_verdict v p.answer) (state_of q.words) (call_to q (ask_tick clock)) (λ number. refl) (λ a. refl)

times-same : (v : Verdict) (q : Lent) (requests : List Request) →
    arrivals_answered (place_of v) (log_of q requests) ≡ times_answered v (answers_to q requests)
times-same v q [] = refl
times-same v q (r ∷ requests) = rw (answered-same v q r, times-same v (leaves q r) requests)

-- a claim about each number below 5, by the verdict that it is the place of
each-place : (P : ℕ → Type 0) → ((v : Verdict) → P (place_of v)) → (n : ℕ) → n < 5 → P n
each-place P p zero h = p Enqueued
each-place P p (suc zero) h = p Marked
each-place P p (suc (suc zero)) h = p DroppedBytes
each-place P p (suc (suc (suc zero))) h = p DroppedSlots
each-place P p (suc (suc (suc (suc zero)))) h = p DroppedEarly
each-place P p (suc (suc (suc (suc (suc n))))) h = absurd (omega arith)

-- ── the words ──

conserved : (q : Lent) (requests : List Request) →
    Conserved (run_of (final_queue q requests) (admitted_in (log_of q requests)) (handed_out_in (log_of q requests)) (answers_to q requests)) →
    CConserved (final_queue q requests) (log_of q requests)
unfolding state_of
conserved q requests k =
    let final = final_queue q requests in
    let log = log_of q requests in
    record {
      bytes = k.bytes;
      bytes-cover = k.bytes-cover;
      count = k.count;
      count-cover = k.count-cover;
      held = k.held;
      verdicts =
          each-place (λ code. verdicts_in final.words code ≡ arrivals_answered code log)
          (λ v. sym (count_word final.words v) ∙ k.verdicts v ∙ sym (times-same v q requests));
      never-102 = λ r e. k.never-2 r (code-refused (answer_of (queue_of final) r) 2 e);
      never-109 = λ r e. k.never-9 r (code-refused (answer_of (queue_of final) r) 9 e);
    }

pub c-conservation : CConservation
c-conservation given target buffer slots profile clock requests accepted =
    let settings = settings_of target buffer slots profile in
    conserved (fresh_queue given target buffer slots profile clock) requests
    (rw (run-same given target buffer slots profile clock requests) at
    (conservation settings clock given.handles given.sizes requests (fresh-made target buffer slots profile clock accepted)))
