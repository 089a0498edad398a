-- What one call keeps of a flow: the flow as a kind of queue of crate calls.
use mathlib.Core.Path.{◌≡◌, refl, ◌∙◌}
use mathlib.Core.Bool.{true, cond}
use mathlib.Core.Logic.{◌≢◌}
use mathlib.Core.List.{List, [], ◌∷◌}
use Prim.Native.Nat.{ℕ, ◌+◌, ◌≤◌}
use native.Mathlib.Omega.{arith}
use borrow.Author.Tests.{eqb-false}
use lib.ListN.{get_or, length}
use Rattle.calls.specs.Conservation.{Empty, Held, Keeps, Readings}
use Rattle.calls.proofs.Ring.{length-listed}
use Rattle.pie.specs.Constants.{most_verdicts}
use Rattle.pie.specs.Verdicts.{place_of, total}
use Rattle.pie.specs.declared.Verdict.{Verdict}
use Rattle.pie.specs.declared.Verdict.TheVariants.{Enqueued, Marked, DroppedBytes, DroppedSlots, DroppedEarly}
use Rattle.pie.proofs.Counts.{total-raised}
use Rattle.refusals.specs.Answer.{made, refused}
use Rattle.modem_flow.specs.declared.Settings.{Settings}
use Rattle.modem_flow.specs.Arrival.{decision_of}
use Rattle.modem_flow.specs.Fresh.{fresh}
use Rattle.modem_flow.specs.State.{formed, well_formed}
use Rattle.modem_flow.proofs.Facts.{well-formed}
use Rattle.modem_flow.proofs.Kept.{fresh-formed, made-accepted}
use Rattle.modem.specs.Asked.{Request, ask_arrival, ask_departure, ask_tick}
use Rattle.modem_guarantees.specs.Calls.{Call, arrive, depart, reply, update}
use Rattle.modem_guarantees.specs.Conservation.{is_verdict}
use Rattle.modem_guarantees.specs.Handed.{Queue, after, answer_of, call_of, flow_queue}
use Rattle.modem_guarantees.specs.Handed.{fresh_queue, row_after}
use Rattle.modem_guarantees.proofs.Answers.{call-answer, counted-at, never-marked, row-five}
use Rattle.modem_guarantees.proofs.Moves.{moved}
use Rattle.modem_guarantees.proofs.NeverRefused.{at-request, head-leaves, not-given, not-given-first, not-given-past-6, row_lent}
use Rattle.modem_guarantees.proofs.Replies.{Accepted, acceptance, at-one-reply, reply-formed}

abbrev pub flow_readings : Readings flow_queue
flow_readings =
    record {
      bytes = λ q. q.state.backlog.bytes.0;
      count = λ q. q.state.backlog.count;
      counted = λ q v. get_or q.row (place_of v) 0;
      is_verdict = is_verdict;
      refused = refused;
    }

pub record Sound (q : Queue) : Type 0 where
  pub good : formed q.state ≡ true
  pub row-high : total q.row ≤ most_verdicts
  pub five : length q.row ≡ 5
  pub marked : get_or q.row (place_of Marked) 0 ≡ 0

after-state : (q : Queue) (r : Request) → (after q r).state ≡ (reply q.state (call_of q r)).state
after-state q (ask_arrival clock handle size u) = refl
after-state q (ask_departure clock) = refl
after-state q (ask_tick clock credits) = refl

after-row : (q : Queue) (r : Request) → (after q r).row ≡ row_after (answer_of q r) q.row
after-row q (ask_arrival clock handle size u) = refl
after-row q (ask_departure clock) = refl
after-row q (ask_tick clock credits) = refl

row-lent : (q : Queue) (r : Request) → row_lent (call_of q r) ≡ q.row
row-lent q (ask_arrival clock handle size u) = refl
row-lent q (ask_departure clock) = refl
row-lent q (ask_tick clock credits) = refl

-- an accepted arrival finds room for one more
row_kept : (q : Queue) (r : Request) → total q.row ≤ most_verdicts → total (row_after (answer_of q r) q.row) ≤ most_verdicts
row_kept q r h =
    at-request (λ r. total (row_after (answer_of q r) q.row) ≤ most_verdicts)
    (λ clock handle size u.
    at-one-reply (λ x. total (row_after x.answer q.row) ≤ most_verdicts) q.state
    (arrive q.row q.handles q.sizes clock handle size u) (λ number. h)
    (λ a. omega (arith, total-raised q.row (decision_of q.state size u).verdict, a.total-low)))
    (λ clock.
    at-one-reply (λ x. total (row_after x.answer q.row) ≤ most_verdicts) q.state
    (depart q.row q.handles q.sizes clock) (λ number. h) (λ a. h))
    (λ clock credits.
    at-one-reply (λ x. total (row_after x.answer q.row) ≤ most_verdicts) q.state
    (update q.row clock credits) (λ number. h) (λ a. h))
    r

counts : (q : Queue) (r : Request) → length q.row ≡ 5 → (v : Verdict) →
    get_or (after q r).row (place_of v) 0 ≡ get_or q.row (place_of v) 0 + cond (is_verdict v (answer_of q r)) 1 0
counts q r five v = rw (after-row q r) (counted-at q.row (answer_of q r) v (call-answer q.state (call_of q r)) five)

after-sound : (q : Queue) (r : Request) → Sound q → Sound (after q r)
after-sound q r s =
    record {
      good = rw (after-state q r) (reply-formed q.state s.good (call_of q r));
      row-high = rw (after-row q r) (row_kept q r s.row-high);
      five = rw (after-row q r) (row-five q.row (answer_of q r) s.five);
      marked = counts q r s.five Marked ∙ rw (never-marked q.state (call_of q r), s.marked);
    }

never-2 : (q : Queue) (r : Request) → Sound q → answer_of q r ≢ refused 2
never-2 q r s =
    let w = well-formed q.state q.row s.good s.row-high in
    at-request (λ r. answer_of q r ≢ refused 2)
    (λ clock handle size u. not-given-first q.state (arrive q.row q.handles q.sizes clock handle size u) _ w refl)
    (λ clock. not-given-first q.state (depart q.row q.handles q.sizes clock) _ w refl)
    (λ clock credits. not-given-first q.state (update q.row clock credits) _ w refl)
    r

never-9 : (q : Queue) (r : Request) → Sound q → Held flow_queue flow_readings q → answer_of q r ≢ refused 9
never-9 q r s h =
    at-request (λ r. answer_of q r ≢ refused 9)
    (λ clock handle size u. not-given q.state (arrive q.row q.handles q.sizes clock handle size u) _ refl)
    (λ clock.
    not-given-past-6 q.state q.row q.handles q.sizes clock _ (omega arith)
    (λ some. rw (head-leaves q s.good h.bytes h.sized (eqb-false q.state.backlog.count 0 some))))
    (λ clock credits. not-given q.state (update q.row clock credits) _ refl)
    r

pub flow-keeps : Keeps flow_queue flow_readings Sound
flow-keeps =
    record {
      sound = after-sound;
      order = λ q r s. (moved q r).order;
      bytes = λ q r s. (moved q r).bytes;
      sized = λ q r s. (moved q r).sized;
      count = λ q s. length-listed q.state.backlog.count _;
      counted = λ q r s v. counts q r s.five v;
      not-2 = never-2;
      not-9 = never-9;
    }

-- ── a fresh flow ──

module _ (settings : Settings) (clock : ℕ) (handles sizes : List ℕ) (e : (fresh settings clock).answer ≡ made) where
  abbrev start : Queue
  start = fresh_queue settings clock handles sizes

  pub fresh-sound : Sound start
  fresh-sound = record { good = fresh-formed settings clock e; row-high = omega arith; five = refl; marked = refl }

  pub fresh-empty : Empty flow_queue flow_readings start
  unfolding fresh
  fresh-empty = rw (made-accepted settings clock e) (record { queued = refl; bytes = refl; counted = none })
    where
      none : (v : Verdict) → get_or {A = ℕ} (0 ∷ 0 ∷ 0 ∷ 0 ∷ 0 ∷ []) (place_of v) 0 ≡ 0
      none Enqueued = refl
      none Marked = refl
      none DroppedBytes = refl
      none DroppedSlots = refl
      none DroppedEarly = refl
