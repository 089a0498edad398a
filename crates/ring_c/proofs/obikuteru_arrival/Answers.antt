-- `obikuteru_arrival`: the verdict's count is below its limit, and the words are those of the state it leaves.
use mathlib.Core.Path.{ap, sym, ◌∙◌}
use Rattle.refusals.specs.Answer.{arrival_answer}
use Rattle.ring_c.proofs.Replies.{count-lt, decided-gives, words_of}
use Rattle.ring_c.proofs.obikuteru_arrival.Goals as goal

pub write_arrival-requires : goal.write_arrival-requires
write_arrival-requires c =
    let e = sym c.arrival-answer.ensures.value.0 ∙ ap arrival_answer c.in-Ok.is in
    count-lt _ _ _ _ _ _ _ _ (rw c.decode-s.ensures.0 at e)

pub returns-in-Ok : goal.returns-in-Ok
returns-in-Ok c =
    let a = c.arrival-answer.ensures in
    let e = sym a.value.0 ∙ ap arrival_answer c.in-Ok.is in
    let d = c.decode-s.ensures in
    let state = sym a.value.1 in
    let written = rw (← d.0) at (words_of _ _ _ _ _ _ _ _ d.1 (rw d.0 at e) _ (rw d.0 at state)) in
    let g = decided-gives _ _ (sym e) a.value.1 c.write_arrival.ensures.value (c.write_arrival.ensures.w_after ∙ written) in
    rw (← d.0) (g.0, g.1, a.tables.0, a.tables.1)
