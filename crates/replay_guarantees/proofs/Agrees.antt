-- The records of any list of calls, replayed from a queue with the same state and packets, are accepted.
use mathlib.Core.Path.{◌≡◌, refl, sym, ap, subst, ◌∙◌}
use mathlib.Core.Bool.{Bool, true, false}
use mathlib.Core.Logic.{◌≢◌}
use mathlib.Core.List.{List, [], ◌∷◌, foldl}
use Prim.Native.Nat.{ℕ, zero, suc, ◌+◌}
use native.Mathlib.Omega.{arith}
use borrow.Author.Tests.{eq-eqb}
use lib.Dec.{eqb}
use lib.ListN.{length}
use Rattle.refusals.specs.Answer.{Answer, refused}
use Rattle.ring.specs.Answer.{Reply}
use Rattle.refusals.specs.Rows.{first_refusal}
use Rattle.ring.specs.declared.State.{State}
use Rattle.log_codec.specs.declared.Record.{Record}
use Rattle.ring.specs.Calls.{Call, arrive, depart, update}
use Rattle.ring.specs.Calls.{Queue, after, answer_of, call_of}
use Rattle.calls.specs.Requests.{Request, ask_arrival, ask_departure, ask_tick}
use Rattle.ring_guarantees.proofs.Refusals.{refusals}
use Rattle.ring_guarantees.proofs.Replies.{acceptance, number-refuses, number_given}
use Rattle.replay.specs.Agreement.{disagreements, refusal_in, request_of, verdict_in}
use Rattle.replay.specs.Replay.{accepted, replay_from}
use Rattle.replay.specs.Replied.{bytes_in, prob_in}
use Rattle.replay.proofs.Rounds.{Round, goes_on}
use Rattle.replay_guarantees.specs.AlwaysAccepted.{AcceptedAs}
use Rattle.replay_guarantees.specs.Recorded.{if_accepted, record_of, recorded}
use Rattle.replay_guarantees.proofs.SameCalls.{Same, accepted-reply, steps-same}

-- ── one record ──

-- it holds the call
ecn-back : (t : Bool) (clock handle size u : ℕ) (a : Answer) (s : State) →
    request_of (record_of (ask_arrival clock handle size t u) a s) ≡ ask_arrival clock handle size t u
ecn-back true clock handle size u a s = refl
ecn-back false clock handle size u a s = refl

pub request-back : (r : Request) (a : Answer) (s : State) → request_of (record_of r a s) ≡ r
request-back (ask_arrival clock handle size ecn u) a s = ecn-back ecn clock handle size u a s
request-back (ask_departure clock) a s = refl
request-back (ask_tick clock) a s = refl

-- and agrees with the answer and the state that it was made of
same_test : (n : ℕ) → eqb n n ≡ true
same_test n = eq-eqb n n refl

agrees : (r : Request) (a : Answer) (s : State) → refusal_in a ≡ 0 →
    first_refusal (disagreements (record_of r a s) (refusal_in a) (verdict_in a) (prob_in s) (bytes_in s)) ≡ 0
agrees (ask_arrival clock handle size ecn u) a s e = rw (e, same_test (verdict_in a), same_test (prob_in s), same_test (bytes_in s))
agrees (ask_departure clock) a s e = rw (e, same_test (verdict_in a), same_test (prob_in s), same_test (bytes_in s))
agrees (ask_tick clock) a s e = rw (e, same_test (verdict_in a), same_test (prob_in s), same_test (bytes_in s))

-- ── one call ──

acceptance-kept : (s : State) (c : Call) (x : Record) →
    (if_accepted (acceptance s c).answer x ≡ x ∷ []) × (refusal_in (acceptance s c).answer ≡ 0)
acceptance-kept s (arrive handles sizes clock handle size ecn u) x = (refl, refl)
acceptance-kept s (depart handles sizes clock) x = (refl, refl)
acceptance-kept s (update clock) x = (refl, refl)

pub accepted-kept : (q : Queue) (r : Request) → number_given q.state (call_of q r) ≡ 0 → (x : Record) →
    (if_accepted (answer_of q r) x ≡ x ∷ []) × (refusal_in (answer_of q r) ≡ 0)
accepted-kept q r e x =
    subst (λ (p : Reply). (if_accepted p.answer x ≡ x ∷ []) × (refusal_in p.answer ≡ 0))
    (sym (accepted-reply q.state (call_of q r) e)) (acceptance-kept q.state (call_of q r) x)

-- the record of an accepted call
abbrev pub kept : Queue → Request → Record
kept q r = record_of r (answer_of q r) (after q r).state

pub recorded-accepted : (q : Queue) (r : Request) (requests : List Request) → number_given q.state (call_of q r) ≡ 0 →
    recorded q (r ∷ requests) ≡ kept q r ∷ recorded (after q r) requests
recorded-accepted q r requests e = rw (accepted-kept q r e (kept q r)).0

pub recorded-refused : (q : Queue) (r : Request) (requests : List Request) → number_given q.state (call_of q r) ≢ 0 →
    (recorded q (r ∷ requests) ≡ recorded (after q r) requests) × (after q r ≡ q)
recorded-refused q r requests some =
    let e : answer_of q r ≡ refused (number_given q.state (call_of q r)) = number-refuses q.state (call_of q r) some in
    (rw e, refusals.untouched q r _ e)

-- the replay passes its record
passes : (number : ℕ) (q q' : Queue) (r : Request) (rest : List Record) → Same q q' → number_given q.state (call_of q r) ≡ 0 →
    replay_from number q' (kept q r ∷ rest) ≡ replay_from (number + 1) (after q' r) rest
passes number q q' r rest same e =
    let t = steps-same q q' same r e in
    let a = answer_of q r in
    let s = (after q r).state in
    let x = kept q r in
    let back = request-back r a s in
    let answers : answer_of q' (request_of x) ≡ a = ap (answer_of q') back ∙ t.0 in
    let state : (after q' r).state ≡ s = t.1.state in
    let round : Round q' (after q' r) x (refusal_in a) (verdict_in a) 0 =
    record {
      refused = ap refusal_in (sym answers);
      ruled = ap verdict_in (sym answers);
      left = ap (after q') (sym back);
      compared = rw state (sym (agrees r a s (accepted-kept q r e x).1));
    } in
    goes_on number q' (after q' r) x rest (refusal_in a) (verdict_in a) 0 round (replay_from number q' (x ∷ rest)) refl refl

-- ── all calls ──

abbrev Agrees : (number : ℕ) → Queue → Queue → List Request → Type 0
Agrees number q q' requests =
    AcceptedAs (replay_from number q' (recorded q requests)) (number + length (recorded q requests)) (foldl after q requests)

one_more : (r : Request) (requests : List Request) → ((number : ℕ) (q q' : Queue) → Same q q' → Agrees number q q' requests) →
    (number : ℕ) (q q' : Queue) → Same q q' → (n : ℕ) → number_given q.state (call_of q r) ≡ n → Agrees number q q' (r ∷ requests)
one_more r requests others number q q' same zero e =
    let rest = recorded (after q r) requests in
    let all = recorded-accepted q r requests e in
    let i = others (number + 1) (after q r) (after q' r) (steps-same q q' same r e).1 in
    let n : number + 1 + length rest ≡ number + length (kept q r ∷ rest) = omega arith in
    record {
      replayed = i.replayed;
      accepts =
          ap (replay_from number q') all
          ∙ passes number q q' r rest same e
          ∙ i.accepts
          ∙ ap (λ (m : ℕ). accepted m i.replayed) (n ∙ ap (λ (l : List Record). number + length l) (sym all));
      state = i.state;
      packets = i.packets;
    }
one_more r requests others number q q' same (suc n) e =
    let t = recorded-refused q r requests (λ z. omega (arith, e, z)) in
    let i : Agrees number (after q r) q' requests =
    subst (λ (x : Queue). Agrees number x q' requests) (sym t.1) (others number q q' same) in
    subst (λ (l : List Record). AcceptedAs (replay_from number q' l) (number + length l) (foldl after (after q r) requests)) (sym t.0) i

pub all-agree : (requests : List Request) (number : ℕ) (q q' : Queue) → Same q q' → Agrees number q q' requests
unfolding replay_from
all-agree [] number q q' same =
    let z : number ≡ number + 0 = omega arith in
    record { replayed = q'; accepts = ap (λ (n : ℕ). accepted n q') z; state = same.state; packets = same.packets }
all-agree (r ∷ requests) number q q' same =
    one_more r requests (λ m p p' k. all-agree requests m p p' k) number q q' same (number_given q.state (call_of q r)) refl
