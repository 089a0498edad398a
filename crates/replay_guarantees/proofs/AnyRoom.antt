-- Whatever room the writer has, it keeps a beginning of the records, and the replay accepts that log.
use mathlib.Core.Path.{◌≡◌, refl, sym, ap, ◌∙◌}
use mathlib.Core.Bool.{Bool, true, false, cond, not, ◌||◌}
use mathlib.Core.List.{List, [], ◌∷◌, ◌++◌, append_assoc, append-nil, foldl}
use Prim.Native.Nat.{ℕ, zero, suc, ◌+◌, ◌-◌, ◌≤◌}
use native.Mathlib.Omega.{arith}
use borrow.Author.Tests.{le-leb, leb-false, lt-ltb}
use lib.Dec.{eqb, leb, ltb}
use lib.ListN.{length, length-append, take}
use lib.Seq.{length-sets, take-nil}
use Rattle.laws.proofs.Tests.{or-neither}
use Rattle.laws.specs.Tests.{all}
use Rattle.log_codec.specs.declared.Header.{Header}
use Rattle.log_codec.specs.declared.Record.{Record}
use Rattle.call_log.specs.Answers.{given}
use Rattle.call_log.specs.Faults.{faulty}
use Rattle.call_log.specs.Layout.{length_of}
use Rattle.call_log.specs.Whole.{Contents, any_faulty, read_whole}
use Rattle.call_log.specs.Writer.{Reply, writer_conditions}
use Rattle.call_log.specs.declared.Writer.{Writer}
use Rattle.call_log.proofs.Replies.{add-14}
use Rattle.log_guarantees.specs.AlwaysWhole.{bytes_of}
use Rattle.log_guarantees.specs.Run.{Run, after as after_add, log_of, run as write, started}
use Rattle.log_guarantees.proofs.AlwaysWhole.{always-whole}
use Rattle.log_guarantees.proofs.Kept.{Kept, at-start, one-call}
use Rattle.ring.specs.Calls.{Queue, after, call_of}
use Rattle.ring_guarantees.specs.Handed.{begin, queued}
use Rattle.ring_guarantees.proofs.Replies.{number_given}
use Rattle.calls.specs.Requests.{Request}
use Rattle.replay.specs.Replay.{Replay, fresh_queue}
use Rattle.replay_guarantees.specs.AnyRoom.{AnyRoom, room, settings_in}
use Rattle.replay_guarantees.specs.Recorded.{recorded}
use Rattle.replay_guarantees.proofs.Agrees.{all-agree, kept, recorded-accepted, recorded-refused}
use Rattle.replay_guarantees.proofs.FreshStart.{queue-of, replays, same_start, start, start-sound}
use Rattle.replay_guarantees.proofs.Fine.{all-fine}
use Rattle.replay_guarantees.proofs.Writes.{writes}

-- ── the writer ──

module _ (h : Header) (note bytes : List ℕ) where
  abbrev most : ℕ
  most = room (length note) (length bytes)

  -- no room for one record more
  full : (q : Run) (r : Record) → Kept h note bytes q → faulty r ≡ false → most ≤ length q.accepted →
      (after_add q r).accepted ≡ q.accepted
  full q r k fine less =
      ap (λ (x : ℕ). q.accepted ++ cond (eqb x 0) (r ∷ []) []) (ap (λ (a : Reply). a.refusal) (sym (add-14 w r q.bytes known fine (short (leb 100000 w.count) refl))))
      ∙ append-nil q.accepted
    where
      w : Writer
      w = q.writer

      size : length q.bytes ≡ length bytes
      size = ap length k.held ∙ length-sets bytes 0 (bytes_of h note q.accepted)

      o : q.writer.offset ≡ 32 + length note
      o = ap (λ (x : Writer). x.offset) k.state

      c : q.writer.count ≡ length q.accepted
      c = ap (λ (x : Writer). x.count) k.state

      known : not (all (writer_conditions q.writer (length q.bytes))) ≡ false
      known =
          simp (
            le-leb 32 q.writer.offset (omega (arith, o)),
            le-leb q.writer.offset 4128 (omega (arith, o, k.short)),
            le-leb q.writer.count 100000 (omega (arith, c, k.few)),
            le-leb (length_of q.writer.offset q.writer.count) (length q.bytes) (omega (arith, o, c, size, k.room)),
          )

      short : (t : Bool) → leb 100000 q.writer.count ≡ t →
          (leb 100000 q.writer.count || ltb (length q.bytes) (length_of q.writer.offset (q.writer.count + 1))) ≡ true
      short true e = rw e
      short false e =
          let below = leb-false 100000 q.writer.count e in
          rw (e, lt-ltb (length q.bytes) (length_of q.writer.offset (q.writer.count + 1)) (omega (arith, below, o, c, size, less)))

  beginning : (rs : List Record) (q : Run) (n : ℕ) → n ≡ most - length q.accepted → Kept h note bytes q → any_faulty rs ≡ false →
      (foldl after_add q rs).accepted ≡ q.accepted ++ take n rs
  beginning [] q n e k fine = sym (append-nil q.accepted) ∙ ap (λ (l : List Record). q.accepted ++ l) (sym (take-nil n))
  beginning (r ∷ rs) q zero e k fine =
      let f = or-neither (faulty r) (any_faulty rs) fine in
      let one = full q r k f.0 (omega (arith, e)) in
      let long : length (after_add q r).accepted ≡ length q.accepted = ap length one in
      beginning rs (after_add q r) 0 (omega (arith, e, long)) (one-call h note bytes q r k) f.1 ∙ ap (λ (l : List Record). l ++ []) one
  beginning (r ∷ rs) q (suc n) e k fine =
      let f = or-neither (faulty r) (any_faulty rs) fine in
      let one = writes h note bytes q r 0 k f.0 (omega (arith, e), omega (arith, e)) in
      let long : length (after_add q r).accepted ≡ length q.accepted + 1 = ap length one ∙ length-append q.accepted (r ∷ []) in
      beginning rs (after_add q r) n (omega (arith, e, long)) (one-call h note bytes q r k) f.1
      ∙ ap (λ (l : List Record). l ++ take n rs) one
      ∙ append_assoc q.accepted (r ∷ []) (take n rs)

-- ── the calls ──

-- a beginning of a list of calls has a beginning of its records
record First (q : Queue) (requests : List Request) (n : ℕ) : Type 0 where
  made : List Request
  others : List Request
  split : requests ≡ made ++ others
  records : take n (recorded q requests) ≡ recorded q made

one_more : (r : Request) (requests : List Request) → ((q : Queue) (n : ℕ) → First q requests n) → (q : Queue) (n k : ℕ) →
    number_given q.state (call_of q r) ≡ k → First q (r ∷ requests) n
one_more r requests rest q zero zero e = record { made = []; others = r ∷ requests; split = refl; records = refl }
one_more r requests rest q (suc n) zero e =
    let i = rest (after q r) n in
    record {
      made = r ∷ i.made;
      others = i.others;
      split = ap (λ (l : List Request). r ∷ l) i.split;
      records =
          ap (take (suc n)) (recorded-accepted q r requests e)
          ∙ ap (λ (l : List Record). kept q r ∷ l) i.records
          ∙ sym (recorded-accepted q r i.made e);
    }
one_more r requests rest q n (suc k) e =
    let i = rest (after q r) n in
    record {
      made = r ∷ i.made;
      others = i.others;
      split = ap (λ (l : List Request). r ∷ l) i.split;
      records =
          ap (take n) (recorded-refused q r requests (λ z. omega (arith, e, z))).0
          ∙ i.records
          ∙ sym (recorded-refused q r i.made (λ z. omega (arith, e, z))).0;
    }

first-calls : (requests : List Request) (q : Queue) (n : ℕ) → First q requests n
first-calls [] q n = record { made = []; others = []; split = refl; records = take-nil n }
first-calls (r ∷ requests) q n = one_more r requests (λ p m. first-calls requests p m) q n (number_given q.state (call_of q r)) refl

pub any-room : AnyRoom
any-room h note bytes own_handles own_sizes requests fit begins handles sizes a b =
    let ok = (at-start h note bytes begins).accepted-settings in
    let q = start h ok own_handles own_sizes in
    let records = recorded q requests in
    let fine = all-fine requests q fit (start-sound h ok own_handles own_sizes) in
    let n = room (length note) (length bytes) in
    let m : n ≡ n - 0 = omega arith in
    let all : (write h note bytes records).accepted ≡ take n records =
    beginning h note bytes records (started h note bytes) n m (at-start h note bytes begins) fine.1 in
    let whole = (always-whole h note bytes records fine.0 begins).read in
    let log = log_of (write h note bytes records) in
    let i = first-calls requests q n in
    let c : Contents = record { header = h; note = note; records = recorded q i.made } in
    let reads : read_whole log ≡ given c = rw (all ∙ i.records) at whole in
    let j = all-agree i.made 0 q (fresh_queue h handles sizes) (same_start h ok own_handles own_sizes handles sizes a b) in
    let z : 0 + length (recorded q i.made) ≡ length (take n records) = omega (arith, ap length i.records) in
    let end = queue-of (begin (settings_in h) h.clock own_handles own_sizes) i.made in (
      all,
      record {
        made = i.made;
        others = i.others;
        split = i.split;
        records = i.records;
        accepts = record {
          replayed = j.replayed;
          accepts = replays log c handles sizes reads a b ∙ j.accepts ∙ ap (λ (k : ℕ). Replay.accepted k j.replayed) z;
          state = j.state ∙ ap (λ (x : Queue). x.state) (sym end);
          packets = j.packets ∙ ap queued (sym end);
        };
      },
    )
