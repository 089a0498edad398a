-- A log that the writer made of a fresh queue's accepted calls is accepted.
use mathlib.Core.Path.{◌≡◌, refl, sym, ap, ◌∙◌}
use mathlib.Core.Bool.{false}
use mathlib.Core.List.{List, [], ◌∷◌, foldl}
use Prim.Native.Nat.{ℕ, ◌+◌}
use native.Mathlib.Omega.{arith}
use borrow.Author.Tests.{eq-eqb}
use lib.ListN.{length}
use Rattle.ring.specs.Fresh.{settings_of}
use Rattle.ring.specs.declared.Settings.{Settings}
use Rattle.log_codec.specs.declared.Header.{Header}
use Rattle.ring.specs.Calls.{Queue, after}
use Rattle.ring_guarantees.specs.Handed.{Run, begin, queued, step}
use Rattle.calls.specs.Requests.{Request}
use Rattle.ring.proofs.Kept.{fresh-well-formed}
use Rattle.call_log.specs.Answers.{given}
use Rattle.call_log.specs.Faults.{header_refused}
use Rattle.call_log.specs.Whole.{Contents, read_whole}
use Rattle.log_guarantees.specs.Run.{log_of, run as write}
use Rattle.log_guarantees.proofs.AlwaysWhole.{always-whole}
use Rattle.log_guarantees.proofs.Kept.{at-start}
use Rattle.replay.specs.Replay.{Replay, fresh_queue, replay, replay_from}
use Rattle.replay.proofs.Contained.{fresh-made, fresh-state}
use Rattle.replay_guarantees.specs.AlwaysAccepted.{AlwaysAccepted}
use Rattle.replay_guarantees.specs.Recorded.{recorded}
use Rattle.replay_guarantees.proofs.Agrees.{all-agree}
use Rattle.replay_guarantees.proofs.Fine.{Sound, all-fine}
use Rattle.replay_guarantees.proofs.SameCalls.{Same}
use Rattle.replay_guarantees.proofs.Written.{written}

-- the queue of a run
queue-of : (r : Run) (requests : List Request) → (foldl step r requests).queue ≡ foldl after r.queue requests
queue-of r [] = refl
queue-of r (q ∷ requests) = queue-of (step r q) requests

module _ (h : Header) (ok : header_refused h ≡ false) where
  abbrev settings : Settings
  settings = settings_of h.target h.buffer h.slots h.profile

  abbrev start : (handles sizes : List ℕ) → Queue
  start handles sizes = (begin settings h.clock handles sizes).queue

  -- two fresh queues, one over tables that fit
  same_start : (handles sizes handles' sizes' : List ℕ) → length handles' ≡ h.slots → length sizes' ≡ h.slots →
      Same (start handles sizes) (fresh_queue h handles' sizes')
  same_start handles sizes handles' sizes' a b =
      let e = fresh-state h ok in
      rw e (record { state = refl; handles = a; sizes = b; packets = refl })

  start-sound : (handles sizes : List ℕ) → Sound (start handles sizes)
  start-sound handles sizes =
      record { formed = fresh-well-formed settings h.clock (fresh-made h ok); small = rw (fresh-state h ok) tt }

-- a log that reads whole, over tables that fit
replays : (log : List ℕ) (c : Contents) (handles sizes : List ℕ) → read_whole log ≡ given c → length handles ≡ c.header.slots →
    length sizes ≡ c.header.slots → replay log handles sizes ≡ replay_from 0 (fresh_queue c.header handles sizes) c.records
unfolding replay
replays log c handles sizes e a b = rw (e, eq-eqb (length handles) c.header.slots a, eq-eqb (length sizes) c.header.slots b)

pub always-accepted : AlwaysAccepted
always-accepted h note bytes own_handles own_sizes requests fit begins few room handles sizes a b =
    let ok = (at-start h note bytes begins).accepted-settings in
    let q = start h ok own_handles own_sizes in
    let records = recorded q requests in
    let fine = all-fine requests q fit (start-sound h ok own_handles own_sizes) in
    let all : (write h note bytes records).accepted ≡ records = written h note bytes records begins fine.1 few room in
    let whole = (always-whole h note bytes records fine.0 begins).read in
    let log = log_of (write h note bytes records) in
    let c : Contents = record { header = h; note = note; records = records } in
    let reads : read_whole log ≡ given c = rw all at whole in
    let i = all-agree requests 0 q (fresh_queue h handles sizes) (same_start h ok own_handles own_sizes handles sizes a b) in
    let z : 0 + length records ≡ length records = omega arith in
    let end = queue-of (begin (settings h ok) h.clock own_handles own_sizes) requests in (
      all,
      record {
        replayed = i.replayed;
        accepts = replays log c handles sizes reads a b ∙ i.accepts ∙ ap (λ (n : ℕ). Replay.accepted n i.replayed) z;
        state = i.state ∙ ap (λ (x : Queue). x.state) (sym end);
        packets = i.packets ∙ ap queued (sym end);
      },
    )
