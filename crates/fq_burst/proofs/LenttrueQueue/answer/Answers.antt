-- The record stays sound, the counts its flows', and the room as large as the calls that are left.
use Rattle.fq_burst.proofs.LenttrueQueue.answer.Goals as goal
use mathlib.Core.Path.{ap}
use native.Mathlib.Omega.{arith}
use Rattle.pie.specs.Verdicts.{total}
use Rattle.fq_words.specs.Words.{common_of}
use Rattle.bursts.specs.Burst.{call}
use Rattle.fq_burst.specs.Burst.{Lent, fq_bursts, held, state_in}
use Rattle.fq_burst.proofs.Left.{sound-after, total-after}

pub answered-requires-clause-common_bound : goal.answered-requires-clause-common_bound
answered-requires-clause-common_bound c = λ e. omega (arith, c.requires.ready.1.2 e)

pub returns-clause-ready_after : goal.returns-clause-ready_after
returns-clause-ready_after c = λ n r.
    let a = c.args in
    let q = a.self.now in
    let given = held q.common.now q.order.now q.flows.now q.deficits.now q.handles.now q.sizes.now in
    let asked = call fq_bursts a.calls.now a.i in
    let next = c.answered.ensures.fact.1 in (
      rw (ap state_in next) (sound-after given asked r.0),
      c.answered.ensures.counts_after,
      λ e. omega (arith, ap (λ (l : Lent). total (common_of l.common).verdicts) next, total-after given asked r.0, r.2 e),
    )
