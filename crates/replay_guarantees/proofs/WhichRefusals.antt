-- Every other refusal is ruled out: of a record without faults, and of a queue that the replay has had from fresh.
use mathlib.Core.Path.{◌≡◌, refl, sym, ap, subst, ◌∙◌}
use mathlib.Core.Bool.{Bool, true, false, cond, ◌&&◌, and-false}
use mathlib.Core.Logic.{◌≢◌}
use mathlib.Core.List.{List, [], ◌∷◌, ◌++◌, foldl}
use Prim.Native.Nat.{ℕ, ◌+◌, ◌<◌, ◌≤◌}
use native.Mathlib.Omega.{arith}
use borrow.Author.Tests.{eq-eqb, eqb-true, le-ltb, leb-false, leb-true, ne_eqb, not-false}
use lib.Dec.{eqb, leb}
use lib.ListN.{length, length-append}
use Rattle.laws.proofs.Tests.{and_left, and_right, or-neither}
use Rattle.laws.proofs.TestLists.{all-at}
use Rattle.laws.specs.Tests.{all}
use Rattle.pie.specs.Constants.{largest, most_verdicts}
use Rattle.pie.specs.Verdicts.{total}
use Rattle.pie.proofs.Counts.{total-raised}
use Rattle.refusals.specs.Tests.{size_refused}
use Rattle.ring.specs.Activity.{begun}
use Rattle.ring.specs.Answer.{Reply}
use Rattle.refusals.specs.Answer.{refused}
use Rattle.ring.specs.Arrival.{arrived_state, verdict_of}
use Rattle.ring.specs.Departure.{departed_state}
use Rattle.ring.specs.Fresh.{settings_of}
use Rattle.ring.specs.Refusals.{tables_refused}
use Rattle.ring.specs.State.{well_formed}
use Rattle.ring.specs.Tick.{ticked_state}
use Rattle.ring.specs.declared.State.{State}
use Rattle.log_codec.specs.declared.Header.{Header}
use Rattle.log_codec.specs.declared.Record.{Record}
use Rattle.calls.specs.Conservation.{Held}
use Rattle.calls.specs.Handed as general
use Rattle.calls.proofs.RunKept.{run-kept}
use Rattle.ring.specs.Calls.{Call, arrive, depart, update}
use Rattle.ring.specs.Calls.{Queue, after, answer_of, call_of}
use Rattle.ring_guarantees.specs.Handed.{begin, ring_queue}
use Rattle.calls.specs.Requests.{Request, ask_arrival, ask_departure, ask_tick}
use Rattle.ring_guarantees.proofs.NeverRefused.{not-given}
use Rattle.ring_guarantees.proofs.Replies.{acceptance, at-one-reply}
use Rattle.ring_guarantees.proofs.RingKeeps.{Sound, fresh-empty, fresh-sound, ring-keeps, ring_readings}
use Rattle.call_log.specs.Answers.{Answer as LogAnswer, given, refused as log_refused}
use Rattle.call_log.specs.Faults.{arrival, departure, faulty, field_conditions, header_refused}
use Rattle.call_log.specs.Layout.{count_in, header_in, note_in, offset_in, records_in}
use Rattle.call_log.specs.Reader.{trailer_refused}
use Rattle.call_log.specs.Whole.{Contents, any_faulty, read_whole}
use Rattle.call_log.proofs.Facts.{sound}
use Rattle.call_log.proofs.Records.{length-records}
use Rattle.replay.specs.Agreement.{request_of}
use Rattle.replay.specs.Replay.{disagrees, fresh_queue, replay, replay_from, replay_read}
use Rattle.replay.specs.Replay.{refused as misread}
use Rattle.replay.proofs.Contained.{fresh-made, fresh-state}
use Rattle.replay.proofs.Rounds.{after-long}
use Rattle.replay_guarantees.specs.ExactlyIf.{after_all, after_record}
use Rattle.replay_guarantees.specs.WhichRefusals.{WhichRefusals}
use Rattle.replay_guarantees.proofs.ExactlyIf.{exactly-if}
use Rattle.replay_guarantees.proofs.SameCalls.{after-state, settings-stay}

-- ── the numbers ──

abbrev Within : ℕ → Type 0
Within n = (4 ≤ n) × (n ≤ 6)

-- a number is within where any other is ruled out
within : (n : ℕ) → (n ≢ 4 → n ≢ 5 → n ≢ 6 → ⊥) → Within n
within n others = go (leb 4 n) refl (leb n 6) refl
  where
    go : (a : Bool) → leb 4 n ≡ a → (b : Bool) → leb n 6 ≡ b → Within n
    go true e true f = (leb-true 4 n e, leb-true n 6 f)
    go true e false f =
        let h = leb-false n 6 f in absurd (others (λ x. omega (arith, h, x)) (λ x. omega (arith, h, x)) (λ x. omega (arith, h, x)))
    go false e b f =
        let h = leb-false 4 n e in absurd (others (λ x. omega (arith, h, x)) (λ x. omega (arith, h, x)) (λ x. omega (arith, h, x)))

-- ── one call ──

-- the queue's tables fit it, and its counts sum to at most n
record Kept (q : Queue) (n : ℕ) : Type 0 where
  handles : length q.handles ≡ q.state.settings.slots
  sizes : length q.sizes ≡ q.state.settings.slots
  few : total q.state.verdicts ≤ n

fits : (q : Queue) (n : ℕ) → Kept q n → tables_refused q.state (length q.handles) (length q.sizes) ≡ false
fits q n k =
    let slots = q.state.settings.slots in
    rw (eq-eqb (length q.handles) slots k.handles, eq-eqb (length q.sizes) slots k.sizes)

module _ (q : Queue) (formed : well_formed q.state ≡ true) (k : Kept q 100000) where
  arrival-within : (clock handle size : ℕ) (ecn : Bool) (u n : ℕ) → size_refused size ≡ false →
      answer_of q (ask_arrival clock handle size ecn u) ≡ refused n → Within n
  arrival-within clock handle size ecn u n small e =
      let not_full : total q.state.verdicts ≢ most_verdicts = λ x. omega (arith, k.few, x) in
      let room = ne_eqb (total q.state.verdicts) most_verdicts not_full in
      within n (λ a b d.
      not-given q.state (arrive q.handles q.sizes clock handle size ecn u) n
      (simp (formed, fits q 100000 k, ne_eqb n 4 a, small, room, and-false)) e)

  departure-within : (clock n : ℕ) → answer_of q (ask_departure clock) ≢ refused 9 → answer_of q (ask_departure clock) ≡ refused n → Within n
  departure-within clock n not-9 e =
      let other : n ≢ 9 = λ x. not-9 (e ∙ ap refused x) in
      within n (λ a b d.
      not-given q.state (depart q.handles q.sizes clock) n
      (simp (formed, fits q 100000 k, ne_eqb n 4 a, ne_eqb n 6 d, ne_eqb n 9 other, and-false)) e)

  tick-within : (clock n : ℕ) → answer_of q (ask_tick clock) ≡ refused n → Within n
  tick-within clock n e =
      within n (λ a b d.
      not-given q.state (update clock) n (simp (formed, ne_eqb n 4 a, ne_eqb n 5 b, and-false)) e)

-- an arrival's size is in range where the record has no fault
size-fine : (r : Record) → faulty r ≡ false → arrival r ≡ true → size_refused r.size ≡ false
unfolding faulty
size-fine r fine kind =
    let at = all-at (field_conditions r) (not-false (all (field_conditions r)) fine) 5 in
    let range : leb 1 r.size && leb r.size largest ≡ true = rw kind at at in
    let low = leb-true 1 r.size (and_left _ _ range) in
    let high = leb-true r.size largest (and_right (leb 1 r.size) _ range) in
    rw (ne_eqb r.size 0 (λ x. omega (arith, low, x)), le-ltb largest r.size high)

call-within : (q : Queue) (r : Record) (n : ℕ) → well_formed q.state ≡ true → Kept q 100000 → faulty r ≡ false →
    ((clock : ℕ) → answer_of q (ask_departure clock) ≢ refused 9) → answer_of q (request_of r) ≡ refused n → Within n
call-within q r n formed k fine not-9 = go (arrival r) refl (departure r)
  where
    go : (a : Bool) → arrival r ≡ a → (d : Bool) →
        answer_of q (cond a (ask_arrival r.clock r.handle r.size (eqb r.ecn 1) r.u)
        (cond d (ask_departure r.clock) (ask_tick r.clock))) ≡ refused n → Within n
    go true kind d e = arrival-within q formed k r.clock r.handle r.size (eqb r.ecn 1) r.u n (size-fine r fine kind) e
    go false kind true e = departure-within q formed k r.clock n (not-9 r.clock) e
    go false kind false e = tick-within q formed k r.clock n e

-- ── the calls before it ──

acceptance-few : (s : State) (c : Call) → total (acceptance s c).state.verdicts ≤ total s.verdicts + 1
unfolding begun arrived_state departed_state ticked_state
acceptance-few s (arrive handles sizes clock handle size ecn u) = total-raised s.verdicts (verdict_of (begun s) size ecn u)
acceptance-few s (depart handles sizes clock) = omega arith
acceptance-few s (update clock) = omega arith

after_kept : (q : Queue) (r : Request) (n : ℕ) → Kept q n → Kept (after q r) (n + 1)
after_kept q r n k =
    let long = after-long q r in
    let slots = ap (λ s. s.slots) (sym (settings-stay q r)) in
    let few : total (after q r).state.verdicts ≤ total q.state.verdicts + 1 =
    rw (after-state q r)
    (at-one-reply (λ (p : Reply). total p.state.verdicts ≤ total q.state.verdicts + 1) q.state (call_of q r)
    (λ n. omega arith)
    (λ a. acceptance-few q.state (call_of q r))) in
    record {
      handles = long.0 ∙ k.handles ∙ slots;
      sizes = long.1 ∙ k.sizes ∙ slots;
      few = omega (arith, few, k.few);
    }

all-kept : (records : List Record) (q : Queue) (n : ℕ) → Kept q n → Kept (after_all q records) (n + length records)
all-kept [] q n k = record { handles = k.handles; sizes = k.sizes; few = omega (arith, k.few) }
all-kept (r ∷ records) q n k =
    let e : n + 1 + length records ≡ n + length (r ∷ records) = omega arith in
    subst (Kept (after_all q (r ∷ records))) e (all-kept records (after_record q r) (n + 1) (after_kept q (request_of r) n k))

abbrev requests : List Record → List Request
requests [] = []
requests (r ∷ records) = request_of r ∷ requests records

run-queue : (r : general.Run ring_queue) (records : List Record) →
    (foldl (general.step ring_queue) r (requests records)).queue ≡ after_all r.queue records
run-queue r [] = refl
run-queue r (x ∷ records) = run-queue (general.step ring_queue r (request_of x)) records

none-faulty : (before : List Record) (r : Record) (rest : List Record) → any_faulty (before ++ r ∷ rest) ≡ false → faulty r ≡ false
none-faulty [] r rest e = (or-neither (faulty r) (any_faulty rest) e).0
none-faulty (x ∷ before) r rest e = none-faulty before r rest (or-neither (faulty x) (any_faulty (before ++ r ∷ rest)) e).1

-- ── the log ──

-- what a log that the reader accepts has
record Accepted (c : Contents) : Type 0 where
  header : header_refused c.header ≡ false
  fine : any_faulty c.records ≡ false
  few : length c.records ≤ 100000

abbrev held : LogAnswer Contents → Contents → Contents
held (log_refused number) other = other
held (given c) other = c

parts : (t h f : Bool) (c d : Contents) → cond t (log_refused 11) (cond h (log_refused 12) (cond f (log_refused 13) (given d))) ≡ given c →
    (t ≡ false) × (h ≡ false) × (f ≡ false) × (d ≡ c)
parts true h f c d e = let z : ◌≡◌ {A = ℕ} 0 1 = cc in let w : ⊥ = omega arith in absurd w
parts false true f c d e = let z : ◌≡◌ {A = ℕ} 0 1 = cc in let w : ⊥ = omega arith in absurd w
parts false false true c d e = let z : ◌≡◌ {A = ℕ} 0 1 = cc in let w : ⊥ = omega arith in absurd w
parts false false false c d e = (refl, refl, refl, ap (λ (a : LogAnswer Contents). held a d) e)

abbrev contents : (log : List ℕ) → Contents
contents l = record { header = header_in l; note = note_in l; records = records_in l }

read-accepted : (l : List ℕ) (c : Contents) → read_whole l ≡ given c → Accepted c
unfolding read_whole
read-accepted l c e =
    let p = parts (trailer_refused l) (header_refused (header_in l)) (any_faulty (records_in l)) c (contents l) e in
    let few = (sound l p.0).few in
    let long : length (records_in l) ≡ count_in l = length-records (count_in l) l (offset_in l) in
    subst Accepted p.3 (record { header = p.1; fine = p.2; few = omega (arith, few, long) })

-- ── the replay ──

module _ (c : Contents) (ok : Accepted c) (handles sizes : List ℕ) where
  abbrev h : Header
  h = c.header

  abbrev start : Queue
  start = fresh_queue h handles sizes

  -- the replay's queue is a fresh one
  begins : (begin (settings_of h.target h.buffer h.slots h.profile) h.clock handles sizes).queue ≡ start
  begins = rw (fresh-state h ok.header)

  run-within : (before : List Record) (r : Record) (rest : List Record) (n : ℕ) → c.records ≡ before ++ r ∷ rest → Kept start 0 →
      answer_of (after_all start before) (request_of r) ≡ refused n → Within n
  run-within before r rest n split k e =
      let settings = settings_of h.target h.buffer h.slots h.profile in
      let made = fresh-made h ok.header in
      let kept =
      run-kept ring_queue ring_readings Sound ring-keeps (begin settings h.clock handles sizes).queue (requests before)
      (fresh-sound settings h.clock handles sizes made) (fresh-empty settings h.clock handles sizes made) in
      let same = run-queue (begin settings h.clock handles sizes) before ∙ ap (λ (q : Queue). after_all q before) begins in
      let q = after_all start before in
      let sound : Sound q = subst Sound same kept.sound in
      let holds : Held ring_queue ring_readings q = subst (Held ring_queue ring_readings) same kept.held in
      let few = all-kept before start 0 k in
      let long : length c.records ≡ length before + length (r ∷ rest) = ap length split ∙ length-append before (r ∷ rest) in
      let enough : Kept q 100000 =
      record { handles = few.handles; sizes = few.sizes; few = omega (arith, few.few, ok.few, long) } in
      call-within q r n sound.formed enough (none-faulty before r rest (rw split at ok.fine))
      (λ clock. ring-keeps.not-9 q (ask_departure clock) sound holds) e

  replay-within : (number field n : ℕ) (left : Queue) (t : Bool) → tables_refused start.state (length handles) (length sizes) ≡ t →
      cond t (misread 3) (replay_from 0 start c.records) ≡ disagrees number field (refused n) left → Within n
  replay-within number field n left true e f = let z : ◌≡◌ {A = ℕ} 0 1 = cc in let w : ⊥ = omega arith in absurd w
  replay-within number field n left false e f =
      let fit = not-false _ e in
      let a = eqb-true (length handles) h.slots (and_left _ _ fit) in
      let b = eqb-true (length sizes) h.slots (and_right (eqb (length handles) h.slots) _ fit) in
      let w = (exactly-if start c.records).first number field (refused n) left f in
      run-within w.before w.it w.rest n w.split (record { handles = a; sizes = b; few = omega arith }) (sym w.ruled)

pub which-refusals : WhichRefusals
unfolding replay
which-refusals log handles sizes number field n left = go (read_whole log) refl
  where
    go : (a : LogAnswer Contents) → read_whole log ≡ a → replay_read a handles sizes ≡ disagrees number field (refused n) left → Within n
    go (log_refused number') e f = let z : ◌≡◌ {A = ℕ} 0 1 = cc in let w : ⊥ = omega arith in absurd w
    go (given c) e f = replay-within c (read-accepted log c e) handles sizes number field n left _ refl f
