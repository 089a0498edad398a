-- Wherever a measurement runs, a packet is queued: well-formedness says so, and every call keeps it.
use Rattle.calls.specs.Traces.{Entry}
use Rattle.calls.proofs.Traces.{along}
use Rattle.pie_guarantees.specs.MeasuredWhileQueued.{MeasuredWhileQueued, QueuedIfMeasuring}

pub measured-while-queued : MeasuredWhileQueued
measured-while-queued k sheds start calls f =
    along k.kind k.Formed (λ (a : Entry k.kind). QueuedIfMeasuring k a.given × QueuedIfMeasuring k a.returned)
    (λ s h c. sheds.kept s c h)
    (λ s h c. ((sheds.ranges s h).busy, (sheds.ranges (k.kind.next s c) (sheds.kept s c h)).busy))
    start calls f
