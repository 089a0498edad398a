-- A record's own bytes.
use mathlib.Core.Path.{◌≡◌, ap, sym, ◌∙◌}
use mathlib.Core.List.{List, [], ◌∷◌}
use Prim.Native.Nat.{ℕ, suc, ◌+◌, ◌*◌, ◌<◌}
use native.Mathlib.Omega.{arith}
use lib.ListN.{get_or, length, replicate}
use lib.Seq.{sets, take_all}
use Rattle.log_codec.specs.Fields.{AreBytes}
use Rattle.log_codec.specs.Records.{InRange, decoded, encoded}
use Rattle.log_codec.specs.declared.Record.{Record}
use Rattle.log_codec.proofs.RoundTrip.{reads-back, writes-back}
use Rattle.call_log.specs.Layout.{trailer_of}
use Rattle.call_log.specs.Writer.{added}
use Rattle.call_log.specs.declared.Writer.{Writer}
use Rattle.call_log.proofs.Stores.{record-and-trailer}

-- a list whose elements are each a byte
pub all-bytes : (l : List ℕ) → ((i : ℕ) → get_or l i 0 < 256) → AreBytes l
all-bytes [] h = tt
all-bytes (x ∷ l) h = (h 0, all-bytes l (λ i. h (suc i)))

-- a record's own bytes and the trailer
pub call-and-trailer : (l : List ℕ) (w : Writer) (call : List ℕ) → length call ≡ 40 → AreBytes call → {l1 l2 : List ℕ} →
    l1 ≡ sets l (w.offset + 40 * w.count) call →
    l2 ≡ sets l1 (w.offset + 40 * w.count + 40) (trailer_of w.offset (w.count + 1)) → l2 ≡ added w (decoded call 0) l
call-and-trailer l w call long bytes e f =
    record-and-trailer l w (decoded call 0) (e ∙ ap (λ (t : List ℕ). sets l (w.offset + 40 * w.count) t) (sym same)) f
  where
    same : encoded (decoded call 0) ≡ call
    same = writes-back call 0 bytes (omega (arith, long)) ∙ take_all 40 call (omega (arith, long))

-- a record that was encoded over 40 zeros
pub encoded-call : (r : Record) {call : List ℕ} → InRange r → call ≡ sets (replicate 40 0) 0 (encoded r) → decoded call 0 ≡ r
encoded-call r f e = ap (λ (l : List ℕ). decoded l 0) e ∙ reads-back r (replicate 40 0) 0 f (omega arith)
