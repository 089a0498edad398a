-- How far early verdicts stand apart, for each queue: it sheds load by PIE.
use mathlib.Core.Path.{refl}
use Rattle.pie_guarantees.proofs.Spacing as proved
use Rattle.pair_rules.specs.Queues.{own}
use Rattle.pair_guarantees.specs.Shedding.{queue_of}
use Rattle.pair_guarantees.specs.EarlyAtMostApart.{EarlyAtMostApart}
use Rattle.pair_guarantees.specs.EarlyAtLeastApart.{EarlyAtLeastApart}
use Rattle.pair_guarantees.proofs.Sheds.{own-formed, own-sheds}

pub early-at-least-apart : EarlyAtLeastApart
early-at-least-apart w = proved.early-at-least-apart (queue_of w) (own-sheds w)

-- a plain queue never turns active
pub early-at-most-apart : EarlyAtMostApart
early-at-most-apart w p calls before between later e q none =
    proved.early-at-most-apart (queue_of w) (own-sheds w) (own w p) calls before between later (own-formed w p e) q
    (λ a m. (none a m, refl))
