-- Conservation, of any kind of queue: from what every call keeps.
use mathlib.Core.Path.{◌≡◌, ap, ◌∙◌}
use Prim.Native.Nat.{◌+◌}
use native.Mathlib.Omega.{arith}
use lib.ListN.{length, length-append}
use Rattle.calls.specs.Conservation.{Conservation, Conserved, Keeps, Readings}
use Rattle.calls.specs.Handed.{QueueKind, Run}
use Rattle.calls.specs.Packets.{bytes_of}
use Rattle.calls.proofs.Packets.{bytes-append}
use Rattle.calls.proofs.RunKept.{Kept, run-kept}

module _ (k : QueueKind) (read : Readings k) (Sound : k.kind.State → Type 0) (keeps : Keeps k read Sound)
    (r : Run k) (kept : Kept k read Sound keeps r) where
  all-bytes : bytes_of r.admitted ≡ bytes_of r.departed + bytes_of (k.queued r.queue)
  all-bytes = ap bytes_of kept.order ∙ bytes-append r.departed (k.queued r.queue)

  all-packets : length r.admitted ≡ length r.departed + read.count r.queue
  all-packets =
      omega (
        arith,
        ap length kept.order,
        length-append r.departed (k.queued r.queue),
        keeps.count r.queue kept.sound,
      )

  pub conserved : Conserved k read r
  conserved =
      let held = kept.held.bytes in
      record {
        bytes = omega (arith, all-bytes);
        bytes-cover = omega (arith, all-bytes);
        count = omega (arith, all-packets);
        count-cover = omega (arith, all-packets);
        held = held;
        verdicts = kept.counted;
        never-2 = λ c. keeps.not-2 r.queue c kept.sound;
        never-9 = λ c. keeps.not-9 r.queue c kept.sound kept.held;
      }

pub conservation : Conservation
conservation k read Sound keeps start calls s e = conserved k read Sound keeps _ (run-kept k read Sound keeps start calls s e)
