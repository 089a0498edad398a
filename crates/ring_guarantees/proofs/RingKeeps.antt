-- What one call keeps of the ring queue: the ring as a kind of queue of crate calls.
use mathlib.Core.Path.{◌≡◌, refl}
use mathlib.Core.Bool.{true}
use mathlib.Core.Logic.{◌≢◌}
use mathlib.Core.List.{List, [], ◌∷◌}
use Prim.Native.Nat.{ℕ}
use native.Mathlib.Omega.{arith}
use borrow.Author.Tests.{eqb-false}
use lib.ListN.{get_or, length}
use Rattle.calls.specs.Conservation.{Empty, Held, Keeps, Readings}
use Rattle.calls.proofs.Ring.{length-listed}
use Rattle.pie.specs.Verdicts.{place_of}
use Rattle.pie.specs.declared.Verdict.{Verdict}
use Rattle.pie.specs.declared.Verdict.TheVariants.{Enqueued, Marked, DroppedBytes, DroppedSlots, DroppedEarly}
use Rattle.ring.specs.declared.Settings.{Settings}
use Rattle.refusals.specs.Answer.{made, refused}
use Rattle.ring.specs.Fresh.{fresh}
use Rattle.ring.specs.State.{well_formed}
use Rattle.ring.proofs.Kept.{fresh-well-formed, made-accepted}
use Rattle.ring.specs.Calls.{arrive, depart, reply, update}
use Rattle.ring_guarantees.specs.Conservation.{is_verdict}
use Rattle.ring.specs.Calls.{Queue, after, answer_of, call_of}
use Rattle.ring_guarantees.specs.Handed.{begin, ring_queue}
use Rattle.calls.specs.Requests.{Request, ask_arrival, ask_departure, ask_tick}
use Rattle.ring_guarantees.proofs.Answers.{reply-counted, reply-five}
use Rattle.ring_guarantees.proofs.Moves.{moved}
use Rattle.ring_guarantees.proofs.NeverRefused.{at-request, head-leaves, not-given, not-given-first, not-given-past-6}
use Rattle.ring_guarantees.proofs.Replies.{reply-well-formed}

abbrev pub ring_readings : Readings ring_queue
ring_readings =
    record {
      bytes = λ q. q.state.backlog.bytes.0;
      count = λ q. q.state.backlog.count;
      counted = λ q v. get_or q.state.verdicts (place_of v) 0;
      is_verdict = is_verdict;
      refused = refused;
    }

pub record Sound (q : Queue) : Type 0 where
  pub formed : well_formed q.state ≡ true
  pub five : length q.state.verdicts ≡ 5

after-state : (q : Queue) (r : Request) → (after q r).state ≡ (reply q.state (call_of q r)).state
after-state q (ask_arrival clock handle size ecn u) = refl
after-state q (ask_departure clock) = refl
after-state q (ask_tick clock) = refl

after-sound : (q : Queue) (r : Request) → Sound q → Sound (after q r)
after-sound q r s =
    record {
      formed = rw (after-state q r) (reply-well-formed q.state s.formed (call_of q r));
      five = rw (after-state q r) (reply-five q.state (call_of q r) s.five);
    }

never-2 : (q : Queue) (r : Request) → Sound q → answer_of q r ≢ refused 2
never-2 q r s =
    at-request (λ r. answer_of q r ≢ refused 2)
    (λ clock handle size ecn u.
    not-given-first q.state (arrive q.handles q.sizes clock handle size ecn u) _ s.formed refl)
    (λ clock. not-given-first q.state (depart q.handles q.sizes clock) _ s.formed refl)
    (λ clock. not-given-first q.state (update clock) _ s.formed refl)
    r

never-9 : (q : Queue) (r : Request) → Sound q → Held ring_queue ring_readings q → answer_of q r ≢ refused 9
never-9 q r s h =
    at-request (λ r. answer_of q r ≢ refused 9)
    (λ clock handle size ecn u. not-given q.state (arrive q.handles q.sizes clock handle size ecn u) _ refl)
    (λ clock.
    not-given-past-6 q.state q.handles q.sizes clock _ (omega arith)
    (λ some. rw (head-leaves q s.formed h.bytes h.sized (eqb-false q.state.backlog.count 0 some))))
    (λ clock. not-given q.state (update clock) _ refl)
    r

pub ring-keeps : Keeps ring_queue ring_readings Sound
ring-keeps =
    record {
      sound = after-sound;
      order = λ q r s. (moved q r).order;
      bytes = λ q r s. (moved q r).bytes;
      sized = λ q r s. (moved q r).sized;
      count = λ q s. length-listed q.state.backlog.count _;
      counted = λ q r s v. rw (after-state q r) (reply-counted q.state (call_of q r) v s.five);
      not-2 = never-2;
      not-9 = never-9;
    }

-- ── a fresh queue ──

module _ (settings : Settings) (clock : ℕ) (handles sizes : List ℕ) (e : (fresh settings clock).answer ≡ made) where
  abbrev start : Queue
  start = (begin settings clock handles sizes).queue

  pub fresh-sound : Sound start
  unfolding fresh
  fresh-sound = record { formed = fresh-well-formed settings clock e; five = rw (made-accepted settings clock e) }

  pub fresh-empty : Empty ring_queue ring_readings start
  unfolding fresh
  fresh-empty = rw (made-accepted settings clock e) (record { queued = refl; bytes = refl; counted = none })
    where
      none : (v : Verdict) → get_or {A = ℕ} (0 ∷ 0 ∷ 0 ∷ 0 ∷ 0 ∷ []) (place_of v) 0 ≡ 0
      none Enqueued = refl
      none Marked = refl
      none DroppedBytes = refl
      none DroppedSlots = refl
      none DroppedEarly = refl
