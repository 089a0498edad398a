-- Every call is refused, and changes nothing.
use Rattle.fq_burst.proofs.LentfalseQueue.answer.Goals as goal
use mathlib.Core.Path.{◌∙◌}
use Prim.Native.Nat.{◌*◌}
use Rattle.fq_burst.specs.Burst.{held}
use Rattle.fq_burst.proofs.Malformed.{malformed-step}

pub returns-clause-value : goal.returns-clause-value
returns-clause-value c =
    let a = c.args in
    let q = a.self.now in
    let given = held q.common.now q.order.now q.flows.now q.deficits.now q.handles.now q.sizes.now in
    c.from.ensures ∙ c.malformed.ensures ∙ (malformed-step given a.calls.now (10 * a.i) c.requires.ready.1).0

pub returns-clause-after : goal.returns-clause-after
returns-clause-after c =
    let a = c.args in
    let q = a.self.now in
    let given = held q.common.now q.order.now q.flows.now q.deficits.now q.handles.now q.sizes.now in
    (malformed-step given a.calls.now (10 * a.i) c.requires.ready.1).1
