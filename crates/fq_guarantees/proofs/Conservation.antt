-- Each flow's bytes, and all flows' together, are what went in less what came out.
use mathlib.Core.Path.{◌≡◌, ap, sym, ◌∙◌}
use Prim.Native.Nat.{ℕ, ◌+◌}
use native.Mathlib.Omega.{arith}
use lib.ListN.{length, length-append}
use Rattle.calls.specs.Packets.{bytes_of}
use Rattle.calls.proofs.Packets.{bytes-append}
use Rattle.fq_state.specs.State.{flow_at}
use Rattle.fq_guarantees.proofs.Facts.{facts}
use Rattle.fq_guarantees.proofs.NeverMalformed.{not-2}
use Rattle.fq_guarantees.specs.Conservation.{AllConserved, Conservation, FlowConserved}
use Rattle.fq_guarantees.specs.Handed.{Run, call_of, of_flow, queued, run}
use Rattle.fq_guarantees.proofs.Chained.{count-queued}
use Rattle.fq_guarantees.proofs.RunKept.{Kept, run-kept}
use Rattle.fq_guarantees.proofs.Steps.{not-9}

module _ (r : Run) (k : Kept r) where
  flow-conserved : (flow : ℕ) → FlowConserved flow r
  flow-conserved flow =
      let out = of_flow flow r.departed in
      let held = (k.whole.held flow).bytes in
      let all-bytes : bytes_of (of_flow flow r.admitted) ≡ bytes_of out + bytes_of (queued flow r.flows) =
      ap bytes_of (k.order flow) ∙ bytes-append out (queued flow r.flows) in
      let all-packets : length (of_flow flow r.admitted) ≡ length out + (flow_at r.flows.state.flows flow).count =
      omega (arith, ap length (k.order flow), length-append out (queued flow r.flows), count-queued flow r.flows) in
      record {
        bytes = omega (arith, all-bytes, held);
        bytes-cover = omega (arith, all-bytes);
        count = omega (arith, all-packets);
        count-cover = omega (arith, all-packets);
        held = held;
      }

  all-conserved : AllConserved r
  all-conserved =
      let t = (facts r.flows.state k.whole.formed.formed).totals in
      record {
        bytes = omega (arith, t.bytes-are, k.all-bytes);
        bytes-cover = omega (arith, k.all-bytes);
        count = omega (arith, t.counts-are, k.all-count);
        count-cover = omega (arith, k.all-count);
        total-bytes = sym t.bytes-are;
        total-count = sym t.counts-are;
      }

pub conservation : Conservation
conservation settings clock handles sizes requests e =
    let r = run settings clock handles sizes requests in
    let k : Kept r = run-kept settings clock handles sizes requests e in
    record {
      each = flow-conserved r k;
      together = all-conserved r k;
      verdicts = k.counted;
      never-2 = λ q. not-2 r.flows.state (call_of r.flows q) k.whole.formed;
      never-9 = λ q. not-9 r.flows q k.whole;
    }
