-- `obikuteru_departure`: the state that a departure leaves.
use mathlib.Core.Path.{ap, sym, ◌∙◌}
use Rattle.refusals.specs.Answer.{departure_answer}
use Rattle.ring_c.proofs.Replies.{departed-as}
use Rattle.ring_c.proofs.obikuteru_departure.Goals as goal

pub write_departure-requires : goal.write_departure-requires
write_departure-requires c =
    let k = c.decode-s.ensures in
    let d = c.departure.ensures in
    (k.1, rw (← k.0) (departed-as _ _ _ _ c.in-Ok.left _ (sym (ap departure_answer c.in-Ok.is) ∙ d.0) d.1))
