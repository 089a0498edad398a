-- A record without faults, for which there is room, is accepted by the writer.
use mathlib.Core.Path.{◌≡◌, refl, sym, ap, ◌∙◌}
use mathlib.Core.Bool.{false, cond, not, ◌||◌}
use mathlib.Core.List.{List, [], ◌∷◌, ◌++◌}
use Prim.Native.Nat.{ℕ, ◌+◌, ◌*◌, ◌≤◌}
use native.Mathlib.Omega.{arith}
use borrow.Author.Tests.{le-leb, le-ltb, lt-leb}
use lib.Dec.{eqb, leb, ltb}
use lib.ListN.{length}
use lib.Seq.{length-sets}
use Rattle.laws.specs.Tests.{all}
use Rattle.log_codec.specs.declared.Header.{Header}
use Rattle.log_codec.specs.declared.Record.{Record}
use Rattle.call_log.specs.Faults.{faulty}
use Rattle.call_log.specs.Layout.{length_of}
use Rattle.call_log.specs.Writer.{Reply, add, writer_conditions}
use Rattle.call_log.specs.declared.Writer.{Writer}
use Rattle.call_log.proofs.Replies.{add_done}
use Rattle.log_guarantees.specs.AlwaysWhole.{bytes_of}
use Rattle.log_guarantees.specs.Run.{Run, after}
use Rattle.log_guarantees.proofs.Kept.{Kept}

module _ (h : Header) (note bytes : List ℕ) where
  -- room for so many records more
  abbrev pub Room : Run → (more : ℕ) → Type 0
  Room q more = (length q.accepted + more ≤ 100000) × (48 + length note + 40 * (length q.accepted + more) ≤ length bytes)

  pub writes : (q : Run) (r : Record) (more : ℕ) → Kept h note bytes q → faulty r ≡ false → Room q (1 + more) →
      (after q r).accepted ≡ q.accepted ++ r ∷ []
  writes q r more k fine room =
      let w = q.writer in
      let n = length q.bytes in
      let size : n ≡ length bytes = ap length k.held ∙ length-sets bytes 0 (bytes_of h note q.accepted) in
      let o : w.offset ≡ 32 + length note = ap (λ (x : Writer). x.offset) k.state in
      let c : w.count ≡ length q.accepted = ap (λ (x : Writer). x.count) k.state in
      let known : not (all (writer_conditions w n)) ≡ false =
      simp (
        le-leb 32 w.offset (omega arith),
        le-leb w.offset 4128 (omega (arith, k.short)),
        le-leb w.count 100000 (omega (arith, room.0)),
        le-leb (length_of w.offset w.count) n (omega (arith, room.1)),
      ) in
      let roomy : (leb 100000 w.count || ltb n (length_of w.offset (w.count + 1))) ≡ false =
      simp (lt-leb 100000 w.count (omega (arith, room.0)), le-ltb n (length_of w.offset (w.count + 1)) (omega (arith, room.1))) in
      let done : (add w r q.bytes).refusal ≡ 0 = ap (λ (a : Reply). a.refusal) (sym (add_done w r q.bytes known fine roomy refl)) in
      ap (λ (x : ℕ). q.accepted ++ cond (eqb x 0) (r ∷ []) []) done
