-- How far early verdicts stand apart, for each flow: it sheds load by PIE.
use mathlib.Core.Path.{refl}
use Rattle.pie_guarantees.proofs.Spacing as proved
use Rattle.fq_guarantees.specs.Shedding.{flow_queue}
use Rattle.fq_guarantees.specs.EarlyAtMostApart.{EarlyAtMostApart}
use Rattle.fq_guarantees.specs.EarlyAtLeastApart.{EarlyAtLeastApart}
use Rattle.fq_guarantees.proofs.Facts.{facts}
use Rattle.fq_guarantees.proofs.Sheds.{flow-sheds, own-formed}

pub early-at-least-apart : EarlyAtLeastApart
early-at-least-apart f start calls h = proved.early-at-least-apart (flow_queue f) (flow-sheds f h) start calls

-- a plain queue never turns active
pub early-at-most-apart : EarlyAtMostApart
early-at-most-apart f start calls h before between later e q none =
    proved.early-at-most-apart (flow_queue f) (flow-sheds f h) start calls before between later
    (own-formed f h start (facts start.state e)) q (λ a m. (none a m, refl))
