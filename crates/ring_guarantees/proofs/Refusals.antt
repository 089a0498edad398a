-- Demand 1: a call's rows are in order, so the number that they give is the lowest whose test holds.
use mathlib.Core.Path.{◌≡◌, refl, subst}
use Prim.Native.Nat.{ℕ}
use native.Mathlib.Omega.{arith}
use Rattle.ring.specs.declared.Settings.{Settings}
use Rattle.ring.specs.declared.State.{State}
use Rattle.ring.specs.State.{well_formed}
use Rattle.ring.specs.Fresh.{fresh}
use Rattle.refusals.specs.Answer.{refused}
use Rattle.refusals.specs.Rows.{Ascending, first_refusal}
use Rattle.refusals.proofs.Ordered.{lowest-given}
use Rattle.ring.proofs.Kept.{fresh-well-formed}
use Rattle.ring.specs.Calls.{Call, arrive, depart, update}
use Rattle.ring.specs.Calls.{Queue, after, answer_of, call_of, returned}
use Rattle.calls.specs.Requests.{Request, ask_arrival, ask_departure, ask_tick}
use Rattle.ring_guarantees.specs.Refusals.{Applies, FreshInOrder, RefusedInOrder, Refusals, rows_of}
use Rattle.ring_guarantees.proofs.Replies.{by_number, acceptance-not-refused, number-refuses, refusal_of, refused-by-number}

ascending : (s : State) (c : Call) → Ascending 0 (rows_of s c)
ascending s (arrive handles sizes clock handle size ecn u) = omega arith
ascending s (depart handles sizes clock) = omega arith
ascending s (update clock) = omega arith

pub calls-refused : (s : State) (c : Call) → RefusedInOrder s c
calls-refused s c =
    let given = lowest-given (rows_of s c) (ascending s c) in
    record {
      lowest = λ n e.
          let r = refused-by-number s c n e in (
            subst (Applies s c) r.1 (given.applies (omega arith)),
            λ m a. let f = given.lowest m a in omega arith,
          );
      refuses = λ m a. (first_refusal (rows_of s c), number-refuses s c (given.lowest m a).0);
      unchanged = λ n e. cc (refused-by-number s c n e).2;
    }

refusal-returns : (q : Queue) (r : Request) (n : ℕ) → returned q r (refusal_of q.state n) ≡ q
refusal-returns q (ask_arrival clock handle size ecn u) n = refl
refusal-returns q (ask_departure clock) n = refl
refusal-returns q (ask_tick clock) n = refl

refused-untouched : (q : Queue) (r : Request) (n : ℕ) → answer_of q r ≡ refused n → after q r ≡ q
refused-untouched q r n =
    by_number (λ reply. reply.answer ≡ refused n → returned q r reply ≡ q) q.state (call_of q r)
    (λ k some given e. refusal-returns q r k)
    (λ none e. absurd (acceptance-not-refused q.state (call_of q r) n e))

fresh-refused : (settings : Settings) (clock : ℕ) → FreshInOrder settings clock
unfolding fresh well_formed
fresh-refused settings clock =
    record {
      refuses = λ e. rw e;
      accepts = λ e. rw e;
      formed = fresh-well-formed settings clock;
      zero-malformed = refl;
    }

pub refusals : Refusals
refusals = record { calls = calls-refused; untouched = refused-untouched; starts = fresh-refused }
