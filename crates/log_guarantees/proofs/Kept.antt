-- What every run keeps: the writer's state and the bytes are those of the records that were accepted.
use mathlib.Core.Path.{◌≡◌, refl, ap, ap₂, ◌∙◌, sym}
use mathlib.Core.Bool.{false, cond}
use mathlib.Core.List.{List, [], ◌∷◌, ◌++◌, append_assoc, append-nil, foldl}
use Prim.Native.Nat.{ℕ, zero, suc, ◌+◌, ◌*◌, ◌≤◌}
use native.Mathlib.Omega.{arith}
use lib.Dec.{eqb, ltb}
use lib.ListN.{length, length-append}
use lib.Seq.{length-sets, sets}
use borrow.Author.Tests.{ltb-false, ne_eqb}
use Rattle.laws.proofs.Tests.{or-neither}
use Rattle.refusals.proofs.Ordered.{none-refuses}
use Rattle.log_codec.specs.Headers.{encoded_header}
use Rattle.log_codec.specs.Records.{encoded}
use Rattle.log_codec.specs.declared.Header.{Header}
use Rattle.log_codec.specs.declared.Record.{Record}
use Rattle.log_codec.proofs.RoundTrip.{length-encoded}
use Rattle.log_codec.proofs.Stores.{sets-sets}
use Rattle.call_log.specs.Faults.{faulty, header_refused}
use Rattle.call_log.specs.Layout.{trailer_of}
use Rattle.call_log.specs.Whole.{any_faulty}
use Rattle.call_log.specs.Writer.{Reply, add, add_refusal, add_refusals, added, begin, begin_refusal, begin_refusals, begun, unless_refused, zero_writer}
use Rattle.call_log.specs.declared.Writer.{Writer}
use Rattle.call_log.proofs.Facts.{roomy}
use Rattle.log_guarantees.specs.AlwaysWhole.{bytes_of}
use Rattle.log_guarantees.specs.Run.{Run, after, run, started}
use Rattle.log_guarantees.proofs.Bytes.{front, length_front, length-trailer, snoc-front}
use Rattle.log_guarantees.proofs.Overwrites.{over}

pub record Kept (h : Header) (note bytes : List ℕ) (r : Run) : Type 0 where
  pub accepted-settings : header_refused h ≡ false
  pub short : length note ≤ 4096
  pub faultless : any_faulty r.accepted ≡ false
  pub few : length r.accepted ≤ 100000
  pub room : 32 + length note + 40 * length r.accepted + 16 ≤ length bytes
  pub state : r.writer ≡ record { offset = 32 + length note; count = length r.accepted }
  pub held : r.bytes ≡ sets bytes 0 (bytes_of h note r.accepted)

any_snoc : (rs : List Record) (r : Record) → any_faulty rs ≡ false → faulty r ≡ false → any_faulty (rs ++ r ∷ []) ≡ false
any_snoc [] r e f = rw f
any_snoc (q ∷ rs) r e f = let p = or-neither (faulty q) (any_faulty rs) e in rw p.0 (any_snoc rs r p.1 f)

-- ── begin ──

module _ (h : Header) (note bytes : List ℕ) where
  -- the reply, by the refusal's number
  abbrev begun-by : ℕ → Reply
  begun-by k = unless_refused k zero_writer bytes (record { refusal = 0; writer = record { offset = 32 + length note; count = 0 }; bytes = begun h note bytes })

  abbrev start_of : Reply → Run
  start_of b = record { writer = b.writer; bytes = b.bytes; accepted = [] }

  begin-by : (k : ℕ) → begin_refusal h (length note) (length bytes) ≡ k → (begun-by k).refusal ≡ 0 → Kept h note bytes (start_of (begun-by k))
  unfolding begin_refusal begun
  begin-by zero e z =
      let none = none-refuses (begin_refusals h (length note) (length bytes)) refl e in
      let p = or-neither (ltb 4096 (length note)) (ltb (length bytes) (48 + length note)) (none 1) in
      let short = ltb-false 4096 (length note) p.0 in
      let room = ltb-false (length bytes) (48 + length note) p.1 in
      record {
        accepted-settings = none 0;
        short = short;
        faultless = refl;
        few = omega arith;
        room = omega arith;
        state = refl;
        held = ap (λ (f : List ℕ). sets bytes 0 (f ++ trailer_of (32 + length note) 0)) (sym (append-nil (encoded_header h ++ note)));
      }
  begin-by (suc k) e z = absurd (omega arith)

  pub at-start : (begin h note bytes).refusal ≡ 0 → Kept h note bytes (started h note bytes)
  unfolding begin
  at-start z = begin-by (begin_refusal h (length note) (length bytes)) refl z

-- ── add ──

-- the record over the old trailer, and the new trailer after it
one_more : (h : Header) (note bytes : List ℕ) (rs : List Record) (r : Record) →
    added (record { offset = 32 + length note; count = length rs }) r (sets bytes 0 (bytes_of h note rs)) ≡ sets bytes 0 (bytes_of h note (rs ++ r ∷ []))
unfolding added
one_more h note bytes rs r =
    let o = 32 + length note in
    let n = length rs in
    let f = front h note rs in
    let p = o + 40 * n in
    let t = trailer_of o (n + 1) in
    let e : p ≡ 0 + length f = omega (arith, length_front h note rs) in
    ap (λ (m : List ℕ). sets m p (encoded r ++ t)) (sym (sets-sets f (trailer_of o n) bytes 0 p e))
    ∙ over (trailer_of o n) (encoded r ++ t) (sets bytes 0 f) p (rw length-append (omega (arith, length-trailer o n, length-trailer o (n + 1), length-encoded r)))
    ∙ sets-sets f (encoded r ++ t) bytes 0 p e
    ∙ ap (λ (b : List ℕ). sets bytes 0 b)
    (sym (append_assoc f (encoded r) t) ∙ ap₂ ◌++◌ (sym (snoc-front h note rs r)) (ap (trailer_of o) (sym (length-append rs (r ∷ [])))))

module _ (h : Header) (note bytes : List ℕ) (q : Run) (r : Record) where
  -- the reply, by the refusal's number
  abbrev added-by : ℕ → Reply
  added-by k =
      unless_refused k q.writer q.bytes
      (record { refusal = 0; writer = record { offset = q.writer.offset; count = q.writer.count + 1 }; bytes = added q.writer r q.bytes })

  abbrev run_of : Reply → Run
  run_of a = record { writer = a.writer; bytes = a.bytes; accepted = q.accepted ++ cond (eqb a.refusal 0) (r ∷ []) [] }

  add-by : (k : ℕ) → add_refusal q.writer r (length q.bytes) ≡ k → Kept h note bytes q → Kept h note bytes (run_of (added-by k))
  unfolding add_refusal
  add-by zero e i =
      let rs = q.accepted in
      let more : length (rs ++ r ∷ []) ≡ length rs + 1 = length-append rs (r ∷ []) in
      let none = none-refuses (add_refusals q.writer r (length q.bytes)) refl e in
      let size : length q.bytes ≡ length bytes = ap length i.held ∙ length-sets bytes 0 (bytes_of h note rs) in
      let room = roomy q.writer (length q.bytes) (none 2) in
      let count : q.writer.count ≡ length rs = ap (λ (w : Writer). w.count) i.state in
      let offset : q.writer.offset ≡ 32 + length note = ap (λ (w : Writer). w.offset) i.state in
      record {
        accepted-settings = i.accepted-settings;
        short = i.short;
        faultless = any_snoc rs r i.faultless (none 1);
        few = omega arith;
        room = omega arith;
        state = rw (offset, count, more);
        held = ap₂ (λ (w : Writer) (b : List ℕ). added w r b) i.state i.held ∙ one_more h note bytes rs r;
      }
  add-by (suc k) e i =
      let no : eqb (suc k) 0 ≡ false = ne_eqb (suc k) 0 (λ z. omega arith) in
      let same : q.accepted ++ cond (eqb (suc k) 0) (r ∷ []) [] ≡ q.accepted = rw no (append-nil q.accepted) in
      record {
        accepted-settings = i.accepted-settings;
        short = i.short;
        faultless = rw same i.faultless;
        few = rw same i.few;
        room = rw same i.room;
        state = rw same i.state;
        held = rw same i.held;
      }

  pub one-call : Kept h note bytes q → Kept h note bytes (after q r)
  unfolding add
  one-call i = add-by (add_refusal q.writer r (length q.bytes)) refl i

-- ── all calls ──

pub all-calls : (h : Header) (note bytes : List ℕ) (q : Run) (rs : List Record) → Kept h note bytes q → Kept h note bytes (foldl after q rs)
all-calls h note bytes q [] i = i
all-calls h note bytes q (r ∷ rs) i = all-calls h note bytes (after q r) rs (one-call h note bytes q r i)

pub kept : (h : Header) (note bytes : List ℕ) (rs : List Record) → (begin h note bytes).refusal ≡ 0 → Kept h note bytes (run h note bytes rs)
kept h note bytes rs z = all-calls h note bytes (started h note bytes) rs (at-start h note bytes z)
