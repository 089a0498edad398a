-- One round of the replay: the record that is reached, and the records after it.
use mathlib.Core.Path.{◌≡◌, refl, ap, ◌∙◌}
use mathlib.Core.List.{List, [], ◌∷◌}
use Prim.Native.Nat.{ℕ, zero, suc, ◌+◌, ◌-◌, ◌<◌}
use native.Mathlib.Omega.{arith}
use lib.ListN.{length}
use Rattle.log_codec.specs.Records.{decoded}
use Rattle.log_codec.specs.declared.Record.{Record}
use Rattle.refusals.specs.Rows.{first_refusal}
use Rattle.ring.specs.Calls.{Queue, after, answer_of}
use Rattle.calls.specs.Requests.{Request, ask_arrival, ask_departure, ask_tick}
use Rattle.call_log.specs.Layout.{records_from}
use Rattle.ring_words.specs.Lent.{Lent, leaves}
use Rattle.ring_words.specs.Lent.{queue_of as lent_queue}
use Rattle.ring_steps.specs.Fitting.{Ready}
use Rattle.ring_steps.proofs.Kept.{leaves-queue, ready-kept, stored-long}
use Rattle.replay.specs.Agreement.{disagreement, disagreements, refusal_in, request_of, verdict_in}
use Rattle.replay.specs.Replay.{Replay, disagrees, replay_from, unless_disagrees}
use Rattle.replay.specs.Replied.{Handed, bytes_in, handles_after, prob_in, replayed_of, sizes_after}

-- the first of the records that are left is the one that is reached
pub reached : (R : Replay) (count i : ℕ) (bytes : List ℕ) (at : ℕ) (q : Queue) (r : Record) →
    R ≡ replay_from i q (records_from (count - i) bytes at) → i < count → r ≡ decoded bytes at →
    R ≡ replay_from i q (r ∷ records_from (count - (i + 1)) bytes (at + 40))
reached R count i bytes at q r e h f = let n : count - i ≡ suc (count - (i + 1)) = omega arith in rw f (rw n at e)

-- none is left
pub none_left : (R : Replay) (count i : ℕ) (bytes : List ℕ) (at : ℕ) (q : Queue) →
    R ≡ replay_from i q (records_from (count - i) bytes at) → i ≡ count → R ≡ replay_from count q []
none_left R count i bytes at q e h = let n : count - i ≡ 0 = omega arith in rw (n, h) at e

-- a call writes at most one element of each table: their lengths stay
pub after-long : (q : Queue) (r : Request) →
    (length (after q r).handles ≡ length q.handles) × (length (after q r).sizes ≡ length q.sizes)
after-long q (ask_arrival clock handle size ecn u) =
    let a = answer_of q (ask_arrival clock handle size ecn u) in
    (stored-long q.state a q.handles handle, stored-long q.state a q.sizes size)
after-long q (ask_departure clock) = (refl, refl)
after-long q (ask_tick clock) = (refl, refl)

-- the queue that a step leaves is the one that its call returns
pub left-queue : (given next : Lent) (r : Request) → length given.words ≡ 23 → next ≡ leaves given r →
    lent_queue next ≡ after (lent_queue given) r
left-queue given next r l e = ap lent_queue e ∙ leaves-queue given r l

-- and it is ready for the records after
pub ready-next : (given next : Lent) (r : Request) (n i : ℕ) → i < n → next ≡ leaves given r → Ready given (n - i) → Ready next (n - (i + 1))
ready-next given next r n i h g k =
    let e : n - i ≡ suc (n - (i + 1)) = omega arith in rw g (ready-kept given r (n - (i + 1)) (rw e at k))

-- what a call of the code gives: refusal and verdict, the queue after it, and the field that disagrees
pub record Round (q q' : Queue) (r : Record) (refusal verdict field : ℕ) : Type 0 where
  pub refused : refusal ≡ refusal_in (answer_of q (request_of r))
  pub ruled : verdict ≡ verdict_in (answer_of q (request_of r))
  pub left : q' ≡ after q (request_of r)
  pub compared : field ≡ first_refusal (disagreements r refusal verdict (prob_in q'.state) (bytes_in q'.state))

pub round : {r : Record} (q q' : Queue) {refusal verdict field : ℕ} →
    (refusal ≡ refusal_in (answer_of q (request_of r))) × (verdict ≡ verdict_in (answer_of q (request_of r))) → q' ≡ after q (request_of r) →
    field ≡ first_refusal (disagreements r refusal verdict (prob_in q'.state) (bytes_in q'.state)) →
    Round q q' r refusal verdict field
round q q' a e f = record { refused = a.0; ruled = a.1; left = e; compared = f }

module _ (i : ℕ) (q q' : Queue) (r : Record) (rest : List Record) (refusal verdict field : ℕ) (h : Round q q' r refusal verdict field) where
  unrolled : replay_from i q (r ∷ rest) ≡ unless_disagrees i field (answer_of q (request_of r)) q' (replay_from (i + 1) q' rest)
  unfolding replay_from disagreement
  unrolled = rw (h.compared, h.refused, h.ruled, h.left)

  -- on to the next where none disagrees
  pub goes_on : (R : Replay) → R ≡ replay_from i q (r ∷ rest) → field ≡ 0 → R ≡ replay_from (i + 1) q' rest
  goes_on R e z = e ∙ unrolled ∙ rw z

  stops : 0 < field → replay_from i q (r ∷ rest) ≡ disagrees i field (answer_of q (request_of r)) q'
  stops p = unrolled ∙ go field p
    where
      go : (n : ℕ) → 0 < n → unless_disagrees i n (answer_of q (request_of r)) q' (replay_from (i + 1) q' rest)
          ≡ disagrees i n (answer_of q (request_of r)) q'
      go zero z = let w : ⊥ = omega arith in absurd w
      go (suc n) z = refl

  -- what is handed back there
  pub stopped : (R : Replay) (handles sizes : List ℕ) → R ≡ replay_from i q (r ∷ rest) → 0 < field →
      (◌≡◌ {A = Handed} (record {
        refused = 0;
        field = field;
        number = i;
        refusal = refusal;
        verdict = verdict;
        prob = prob_in q'.state;
        bytes = bytes_in q'.state;
      }) (replayed_of R))
      × (q'.handles ≡ handles_after R handles)
      × (q'.sizes ≡ sizes_after R sizes)
  stopped R handles sizes e p = rw (e ∙ stops p, h.refused, h.ruled) (refl, refl, refl)

-- and where every record agreed
pub ended : (R : Replay) (n : ℕ) (q : Queue) (handles sizes : List ℕ) → R ≡ replay_from n q [] →
    (◌≡◌ {A = Handed} (record {
      refused = 0;
      field = 0;
      number = n;
      refusal = 0;
      verdict = 0;
      prob = prob_in q.state;
      bytes = bytes_in q.state;
    }) (replayed_of R))
    × (q.handles ≡ handles_after R handles)
    × (q.sizes ≡ sizes_after R sizes)
unfolding replay_from
ended R n q handles sizes e = rw e (refl, refl, refl)
