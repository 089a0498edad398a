-- A fresh queue, and the fresh queue of a replay over any tables that fit; the replay of a log that reads whole.
use mathlib.Core.Path.{◌≡◌, refl}
use mathlib.Core.Bool.{false}
use mathlib.Core.List.{List, [], ◌∷◌, foldl}
use Prim.Native.Nat.{ℕ}
use borrow.Author.Tests.{eq-eqb}
use lib.ListN.{length}
use Rattle.ring.specs.Fresh.{settings_of}
use Rattle.ring.specs.declared.Settings.{Settings}
use Rattle.log_codec.specs.declared.Header.{Header}
use Rattle.ring.specs.Calls.{Queue, after}
use Rattle.ring_guarantees.specs.Handed.{Run, begin, step}
use Rattle.calls.specs.Requests.{Request}
use Rattle.ring.proofs.Kept.{fresh-well-formed}
use Rattle.call_log.specs.Answers.{given}
use Rattle.call_log.specs.Faults.{header_refused}
use Rattle.call_log.specs.Whole.{Contents, read_whole}
use Rattle.replay.specs.Replay.{fresh_queue, replay, replay_from}
use Rattle.replay.proofs.Contained.{fresh-made, fresh-state}
use Rattle.replay_guarantees.proofs.Fine.{Sound}
use Rattle.replay_guarantees.proofs.SameCalls.{Same}

-- the queue of a run
pub queue-of : (r : Run) (requests : List Request) → (foldl step r requests).queue ≡ foldl after r.queue requests
queue-of r [] = refl
queue-of r (q ∷ requests) = queue-of (step r q) requests

module _ (h : Header) (ok : header_refused h ≡ false) where
  abbrev pub settings : Settings
  settings = settings_of h.target h.buffer h.slots h.profile

  abbrev pub start : (handles sizes : List ℕ) → Queue
  start handles sizes = (begin settings h.clock handles sizes).queue

  -- two fresh queues, one over tables that fit
  pub same_start : (handles sizes handles' sizes' : List ℕ) → length handles' ≡ h.slots → length sizes' ≡ h.slots →
      Same (start handles sizes) (fresh_queue h handles' sizes')
  same_start handles sizes handles' sizes' a b =
      let e = fresh-state h ok in
      rw e (record { state = refl; handles = a; sizes = b; packets = refl })

  pub start-sound : (handles sizes : List ℕ) → Sound (start handles sizes)
  start-sound handles sizes =
      record { formed = fresh-well-formed settings h.clock (fresh-made h ok); small = rw (fresh-state h ok) tt }

-- a log that reads whole, over tables that fit
pub replays : (log : List ℕ) (c : Contents) (handles sizes : List ℕ) → read_whole log ≡ given c → length handles ≡ c.header.slots →
    length sizes ≡ c.header.slots → replay log handles sizes ≡ replay_from 0 (fresh_queue c.header handles sizes) c.records
unfolding replay
replays log c handles sizes e a b = rw (e, eq-eqb (length handles) c.header.slots a, eq-eqb (length sizes) c.header.slots b)
