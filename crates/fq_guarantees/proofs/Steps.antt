-- Any call: what it moves, that it is not refused by 9, and that what it returns is whole again.
use mathlib.Core.Path.{◌≡◌, refl, ap, ◌∙◌}
use mathlib.Core.Bool.{Bool, true, false, cond}
use mathlib.Core.Logic.{◌≢◌}
use mathlib.Core.List.{List}
use Prim.Native.Nat.{ℕ}
use native.Mathlib.Omega.{arith}
use borrow.Author.Tests.{eqb-false}
use lib.ListN.{length}
use Rattle.calls.specs.Packets.{bytes_of}
use Rattle.calls.proofs.Packets.{bytes-append, sized-append, sized-rest}
use Rattle.refusals.proofs.Ordered.{test-fails}
use Rattle.fq_state.specs.State.{flow_at}
use Rattle.fq_rules.specs.Answer.{Answer, Reply, refused}
use Rattle.fq_rules.specs.Arrival.{flow_number}
use Rattle.fq_rules.specs.Departure.{choice_of}
use Rattle.fq_rules.specs.Refusals.{clock_refused, empty_refused}
use Rattle.fq_guarantees.specs.Acceptance.{acceptance}
use Rattle.fq_guarantees.specs.Calls.{reply}
use Rattle.fq_guarantees.specs.Refusals.{Applies, rows_of}
use Rattle.fq_guarantees.proofs.Kept.{kept}
use Rattle.fq_guarantees.proofs.Refusals.{calls-refused}
use Rattle.fq_guarantees.proofs.Replies.{by_number, number_given, refusal_of, refused-by-number}
use Rattle.fq_guarantees.specs.Handed.{Flows, Request, admitted_by, after, answer_of, ask_arrival, ask_departure, ask_tick, call_of}
use Rattle.fq_guarantees.specs.Handed.{departed_by, of_flow, queued, returned}
use Rattle.fq_guarantees.proofs.Arriving.{arrival-moves}
use Rattle.fq_guarantees.proofs.Counted.{length-counted}
use Rattle.fq_guarantees.proofs.Departing.{departure-moves}
use Rattle.fq_guarantees.proofs.Moves.{Moved, still-moves}
use Rattle.fq_guarantees.proofs.Ticking.{tick-moves}
use Rattle.fq_guarantees.proofs.Whole.{Held, Whole, freed-followed, head_of, served-holds, unfit_of}

-- ── what moves ──

stays : (q : Flows) (r : Request) (n : ℕ) → returned q r (refusal_of q.state n) ≡ q
stays q (ask_arrival clock key handle size ecn u) n = refl
stays q (ask_departure clock) n = refl
stays q (ask_tick clock) n = refl

refused-moves : (q : Flows) (r : Request) (n : ℕ) → Whole q → Moved q r (refused n) (returned q r (refusal_of q.state n))
refused-moves q r n h =
    rw (stays q r n)
    (still-moves q r (refused n) q h
    (record { none_in = refl; none_out = refl; chains = refl; bytes = λ flow. refl; backlog = refl; counted = refl }))

accepted-moves : (q : Flows) (r : Request) → Whole q → number_given q.state (call_of q r) ≡ 0 →
    let x = acceptance q.state (call_of q r) in Moved q r x.answer (returned q r x)
accepted-moves q (ask_arrival clock key handle size ecn u) h none = arrival-moves q clock key handle size ecn u h none
accepted-moves q (ask_departure clock) h none = departure-moves q clock h none
accepted-moves q (ask_tick clock) h none = tick-moves q clock h

pub moves : (q : Flows) (r : Request) → Whole q → Moved q r (answer_of q r) (after q r)
moves q r h =
    by_number (λ x. Moved q r x.answer (returned q r x)) q.state (call_of q r)
    (λ n some e. refused-moves q r n h)
    (accepted-moves q r h)

-- ── never 9 ──

-- the test of 9 does not hold where it is reached, and a number before it is given where it isn't
Given9 : Flows → Request → Type 0
Given9 q r = Applies q.state (call_of q r) 9 × (number_given q.state (call_of q r) ≡ 9)

arrival-not-9 : (q : Flows) (clock : ℕ) (key : List ℕ) (handle size : ℕ) (ecn : Bool) (u : ℕ) → Whole q →
    Given9 q (ask_arrival clock key handle size ecn u) → ⊥
unfolding Given9
arrival-not-9 q clock key handle size ecn u h given = go (unfit_of q) refl
  where
    go : (b : Bool) → unfit_of q ≡ b → ⊥
    go true e = let three : ◌≡◌ {A = ℕ} 3 9 = rw (h.formed.formed, e) at given.1 in omega arith
    go false e =
        let f = flow_at q.state.flows (flow_number q.state key) in
        test-fails 9 (rows_of q.state (call_of q (ask_arrival clock key handle size ecn u)))
        (rw (freed-followed q f size ecn u h e)) given.0

departure-not-9 : (q : Flows) (clock : ℕ) → Whole q → Given9 q (ask_departure clock) → ⊥
unfolding Given9
departure-not-9 q clock h given = go (unfit_of q) refl
  where
    earlier : (b : Bool) → ◌≡◌ {A = ℕ} (cond b 4 6) 9 → ⊥
    earlier true e = omega arith
    earlier false e = omega arith

    some : (b : Bool) → unfit_of q ≡ false → empty_refused q.state.common ≡ b → ⊥
    some true fit e = earlier (clock_refused q.state.common clock) (rw (h.formed.formed, fit, e) at given.1)
    some false fit e =
        let head = head_of q (choice_of q.state).flow h fit (served-holds q.state h.formed (eqb-false _ _ e)) in
        test-fails 9 (rows_of q.state (call_of q (ask_departure clock))) (rw head.word) given.0

    go : (b : Bool) → unfit_of q ≡ b → ⊥
    go true e = let three : ◌≡◌ {A = ℕ} 3 9 = rw (h.formed.formed, e) at given.1 in omega arith
    go false e = some (empty_refused q.state.common) e refl

not-given : (q : Flows) (r : Request) → Whole q → Given9 q r → ⊥
unfolding Given9
not-given q (ask_arrival clock key handle size ecn u) h given = arrival-not-9 q clock key handle size ecn u h given
not-given q (ask_departure clock) h given = departure-not-9 q clock h given
not-given q (ask_tick clock) h given = test-fails 9 (rows_of q.state (call_of q (ask_tick clock))) refl given.0

pub not-9 : (q : Flows) (r : Request) → Whole q → answer_of q r ≢ refused 9
unfolding Given9
not-9 q r h e =
    let c = call_of q r in
    not-given q r h (((calls-refused q.state c).lowest 9 e).0, (refused-by-number q.state c 9 e).1)

-- ── what is kept ──

held_after : (q q' : Flows) (r : Request) (a : Answer) (flow : ℕ) → Moved q r a q' → Held flow q → Held flow q'
held_after q q' r a flow m h =
    let into = of_flow flow (admitted_by q r a) in
    let out = of_flow flow (departed_by a) in
    record {
      bytes =
          omega (
            arith,
            m.bytes flow,
            h.bytes,
            ap bytes_of (m.order flow),
            bytes-append (queued flow q) into,
            bytes-append out (queued flow q'),
          );
      sized = sized-rest out _ (rw (m.order flow) at (sized-append (queued flow q) into h.sized (m.sized flow)));
    }

same-state : (q : Flows) (r : Request) (x : Reply) → (returned q r x).state ≡ x.state
same-state q (ask_arrival clock key handle size ecn u) x = refl
same-state q (ask_departure clock) x = refl
same-state q (ask_tick clock) x = refl

pub whole-kept : (q : Flows) (r : Request) → Whole q → Whole (after q r)
whole-kept q r h =
    let m = moves q r h in
    record {
      formed = rw (same-state q r (reply q.state (call_of q r))) (kept q.state (call_of q r) h.formed);
      linked = m.linked;
      held = λ flow. held_after q (after q r) r (answer_of q r) flow m (h.held flow);
      five = ap length m.counted ∙ length-counted q.state.common.verdicts (answer_of q r) ∙ h.five;
    }
