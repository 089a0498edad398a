-- The bytes of every run are a whole log, byte for byte.
use mathlib.Core.Path.{◌≡◌, ap, ◌∙◌, sym}
use mathlib.Core.Bool.{Bool, true, false, cond}
use mathlib.Core.List.{List, [], ◌∷◌, ◌++◌, foldl}
use Prim.Native.Nat.{ℕ, ◌+◌, ◌≤◌}
use native.Mathlib.Omega.{arith}
use lib.Dec.{eqb}
use lib.ListN.{drop, length, take}
use lib.Seq.{drop_at, sets, sets-eq, take_at}
use Rattle.log_codec.specs.Records.{InRange}
use Rattle.log_codec.specs.declared.Header.{Header}
use Rattle.log_codec.specs.declared.Record.{Record}
use Rattle.call_log.specs.Layout.{length_of}
use Rattle.call_log.specs.Whole.{read_whole}
use Rattle.call_log.specs.Writer.{add}
use Rattle.call_log.specs.declared.Writer.{Writer}
use Rattle.call_log.proofs.Contents.{reads_whole}
use Rattle.log_guarantees.specs.AlwaysWhole.{AlwaysWhole, Whole, bytes_of}
use Rattle.log_guarantees.specs.Run.{AllInRange, Run, after, log_of, run, started}
use Rattle.log_guarantees.proofs.Bytes.{is_whole, length-bytes}
use Rattle.log_guarantees.proofs.Kept.{Kept, kept}

-- ── what is accepted fits its widths ──

one-fits : (r : Record) (t : Bool) → InRange r → AllInRange (cond t (r ∷ []) [])
one-fits r true f = (f, tt)
one-fits r false f = tt

both-fit : (rs qs : List Record) → AllInRange rs → AllInRange qs → AllInRange (rs ++ qs)
both-fit [] qs f g = g
both-fit (r ∷ rs) qs f g = (f.0, both-fit rs qs f.1 g)

accepted-fit : (q : Run) (rs : List Record) → AllInRange q.accepted → AllInRange rs → AllInRange (foldl after q rs).accepted
accepted-fit q [] f g = f
accepted-fit q (r ∷ rs) f g =
    let t = eqb (add q.writer r q.bytes).refusal 0 in
    accepted-fit (after q r) rs (both-fit q.accepted (cond t (r ∷ []) []) f (one-fits r t g.0)) g.1

-- ── a run's log ──

-- stores from the first byte on
stored : (l a : List ℕ) → length a ≤ length l → sets l 0 a ≡ a ++ drop (length a) l
stored l a h = let z : 0 + length a ≡ length a = omega arith in sets-eq a l 0 (omega arith) ∙ ap (λ (n : ℕ). a ++ drop n l) z

module _ (h : Header) (note bytes : List ℕ) (r : Run) (k : Kept h note bytes r) where
  abbrev b : List ℕ
  b = bytes_of h note r.accepted

  long : length b ≡ length_of r.writer.offset r.writer.count
  long = length-bytes h note r.accepted ∙ ap (λ (w : Writer). length_of w.offset w.count) (sym k.state)

  bytes-are : r.bytes ≡ b ++ drop (length b) bytes
  bytes-are = k.held ∙ stored bytes b (omega (arith, length-bytes h note r.accepted, k.room))

  exactly : log_of r ≡ b
  exactly = ap (take (length_of r.writer.offset r.writer.count)) bytes-are ∙ take_at b (drop (length b) bytes) (length_of r.writer.offset r.writer.count) long

  beyond : let n = length_of r.writer.offset r.writer.count in drop n r.bytes ≡ drop n bytes
  beyond =
      let n = length_of r.writer.offset r.writer.count in
      ap (drop n) bytes-are ∙ drop_at b (drop (length b) bytes) n long ∙ ap (λ (m : ℕ). drop m bytes) long

  whole : AllInRange r.accepted → Whole r h note bytes
  whole f = record {
    read =
        ap read_whole exactly
        ∙ reads_whole b (record { header = h; note = note; records = r.accepted })
        (is_whole h note r.accepted k.accepted-settings k.short k.few f k.faultless);
    exactly = exactly;
    beyond = beyond;
  }

pub always-whole : AlwaysWhole
always-whole h note bytes rs f z = whole h note bytes (run h note bytes rs) (kept h note bytes rs z) (accepted-fit (started h note bytes) rs tt f)
