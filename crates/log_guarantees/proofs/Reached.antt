-- 11 refuses exactly the states that no run reaches in bytes of that length.
use mathlib.Core.Path.{◌≡◌, refl, ap, ◌∙◌, sym}
use mathlib.Core.Bool.{true, false, ◌||◌}
use mathlib.Core.List.{List, ◌++◌, foldl}
use Prim.Native.Nat.{ℕ, zero, suc, ◌+◌, ◌*◌, ◌-◌}
use native.Mathlib.Omega.{arith}
use lib.Dec.{leb, ltb}
use lib.ListN.{length, length-replicate, replicate}
use lib.Seq.{length-sets}
use borrow.Author.Tests.{le-leb, le-ltb, lt-leb}
use Rattle.laws.specs.Tests.{all}
use Rattle.log_codec.specs.Headers.{encoded_header}
use Rattle.log_codec.specs.Records.{encoded}
use Rattle.log_codec.specs.declared.Header.{Header}
use Rattle.log_codec.specs.declared.Record.{Record}
use Rattle.call_log.specs.Faults.{faulty, header_refused}
use Rattle.call_log.specs.Layout.{length_of, trailer_of}
use Rattle.call_log.specs.Writer.{Reply, add, added, begin, begun, writer_conditions}
use Rattle.call_log.specs.declared.Writer.{Writer}
use Rattle.call_log.proofs.Facts.{Held, held}
use Rattle.call_log.proofs.Replies.{add_done, begin-done}
use Rattle.log_guarantees.specs.Reached.{Reached, Way}
use Rattle.log_guarantees.specs.Run.{Run, after, run, started}
use Rattle.log_guarantees.proofs.Kept.{Kept, kept}

conditions : (w : Writer) (n : ℕ) → Held w n → all (writer_conditions w n) ≡ true
conditions w n f = simp (le-leb _ _ f.low, le-leb _ _ f.high, le-leb _ _ f.few, le-leb _ _ f.within)

-- a run's state
at-run : (h : Header) (note bytes : List ℕ) (r : Run) → Kept h note bytes r → Held r.writer (length bytes)
at-run h note bytes r k =
    let o : r.writer.offset ≡ 32 + length note = ap (λ (w : Writer). w.offset) k.state in
    let n : r.writer.count ≡ length r.accepted = ap (λ (w : Writer). w.count) k.state in
    record { low = omega (arith, k.short); high = omega (arith, k.short); few = omega (arith, k.few); within = omega (arith, k.room) }

-- ── a way to a state: settings and ticks that nothing refuses ──

abbrev settings : Header
settings = record { target = 1000; buffer = 1; slots = 1; clock = 0; profile = 0; unused = 0 }

abbrev tick : Record
tick = record { kind = 116; ecn = 0; unused = 0; handle = 0; clock = 0; size = 0; u = 0; verdict = 0; bytes = 0; prob = 0 }

settings-ok : header_refused settings ≡ false
unfolding header_refused
settings-ok = refl

tick-ok : faulty tick ≡ false
unfolding faulty
tick-ok = refl

length-added : (w : Writer) (r : Record) (l : List ℕ) → length (added w r l) ≡ length l
unfolding added
length-added w r l = length-sets l (w.offset + 40 * w.count) (encoded r ++ trailer_of w.offset (w.count + 1))

one-tick : (q : Run) (o c : ℕ) → q.writer ≡ record { offset = o; count = c } → Held (record { offset = o; count = c + 1 }) (length q.bytes) →
    ((after q tick).writer ≡ record { offset = o; count = c + 1 }) × (length (after q tick).bytes ≡ length q.bytes)
one-tick q o c e f =
    let w : Writer = record { offset = o; count = c } in
    let n = length q.bytes in
    let known = conditions w n (record { low = f.low; high = f.high; few = omega (arith, f.few); within = omega (arith, f.within) }) in
    let room : (leb 100000 c || ltb n (length_of o (c + 1))) ≡ false = simp (lt-leb 100000 c (omega (arith, f.few)), le-ltb n (length_of o (c + 1)) f.within) in
    let done = add_done w tick q.bytes (rw known) tick-ok room refl in
    let same : add q.writer tick q.bytes ≡ add w tick q.bytes = ap (λ (v : Writer). add v tick q.bytes) e in
    (ap (λ (a : Reply). a.writer) (same ∙ sym done), ap (λ (a : Reply). length a.bytes) (same ∙ sym done) ∙ length-added w tick q.bytes)

ticks : (k : ℕ) (q : Run) (o c : ℕ) → q.writer ≡ record { offset = o; count = c } → Held (record { offset = o; count = c + k }) (length q.bytes) →
    (foldl after q (replicate k tick)).writer ≡ record { offset = o; count = c + k }
ticks zero q o c e f = let z : c ≡ c + 0 = omega arith in e ∙ ap (λ (n : ℕ). record { offset = o; count = n }) z
ticks (suc k) q o c e f =
    let one = one-tick q o c e (record { low = f.low; high = f.high; few = omega (arith, f.few); within = omega (arith, f.within) }) in
    let n : c + 1 + k ≡ c + suc k = omega arith in
    ticks k (after q tick) o (c + 1) one.0
    (record { low = f.low; high = f.high; few = omega (arith, f.few); within = omega (arith, f.within, one.1) })
    ∙ ap (λ (m : ℕ). record { offset = o; count = m }) n

length-begun : (h : Header) (note l : List ℕ) → length (begun h note l) ≡ length l
unfolding begun
length-begun h note l = length-sets l 0 (encoded_header h ++ note ++ trailer_of (32 + length note) 0)

way : (w : Writer) (bytes : List ℕ) → Held w (length bytes) → Way w bytes
way w bytes f =
    let note : List ℕ = replicate (w.offset - 32) 0 in
    let size : length note ≡ w.offset - 32 = length-replicate {A = ℕ} (w.offset - 32) 0 in
    let done =
    begin-done settings note bytes settings-ok (le-ltb 4096 (length note) (omega (arith, f.high))) (le-ltb (length bytes) (48 + length note) (omega (arith, f.low, f.within))) refl in
    let o : 32 + length note ≡ w.offset = omega (arith, f.low) in
    let begun-writer : (begin settings note bytes).writer ≡ record { offset = w.offset; count = 0 } =
    ap (λ (a : Reply). a.writer) (sym done) ∙ ap (λ (n : ℕ). record { offset = n; count = 0 }) o in
    let long : length (begin settings note bytes).bytes ≡ length bytes = ap (λ (a : Reply). length a.bytes) (sym done) ∙ length-begun settings note bytes in
    let z : 0 + w.count ≡ w.count = omega arith in
    record {
      header = settings;
      note = note;
      records = replicate w.count tick;
      begins = ap (λ (a : Reply). a.refusal) (sym done);
      arrives =
          ticks w.count (started settings note bytes) w.offset 0 begun-writer
          (record { low = f.low; high = f.high; few = omega (arith, f.few); within = omega (arith, f.within, long) })
          ∙ ap (λ (n : ℕ). record { offset = w.offset; count = n }) z;
    }

pub reached-states : Reached
reached-states = record {
  accepted = λ w bytes p.
      conditions w (length bytes)
      (rw p.arrives at (at-run p.header p.note bytes (run p.header p.note bytes p.records) (kept p.header p.note bytes p.records p.begins)));
  reached = λ w bytes e. way w bytes (held w (length bytes) e);
}
