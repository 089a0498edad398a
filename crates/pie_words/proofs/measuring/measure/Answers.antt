use Rattle.pie_words.proofs.measuring.measure.Goals as goal
use mathlib.Core.Path.{sym, ◌∙◌}
use mathlib.Core.Bool.{true, false}
use Rattle.pie_words.proofs.Writing.{begins, ends, flag, goes_on, stays}

pub write_rate-requires-clause-ran_value : goal.write_rate-requires-clause-ran_value
write_rate-requires-clause-ran_value c =
    let a = c.before.before.before.before.before.before.before.before.args in
    sym (flag a.w.now a.k a.clock.0 a.size.0 a.left.count a.left.bytes.0 _ c.before.before.before.before.before.rate_at-rate.ensures true c.before.before.before.before.if-rate.true)

pub returns-then-rate : goal.returns-then-rate
returns-then-rate c =
    let a = c.before.before.before.before.before.before.before.before.before.before.before.args in
    c.before.before.write_rate.ensures
    ∙ ends a.w.now a.k a.clock.0 a.size.0 a.left.count a.left.bytes.0 _ c.before.before.before.before.before.before.before.before.rate_at-rate.ensures c.before.before.before.before.before.before.before.if-rate.true _ _ c.before.before.before.before.before.before.count-counted.ensures c.before.before.before.before.begin-next.ensures

pub write_rate-requires-then-next-clause-ran_value : goal.write_rate-requires-then-next-clause-ran_value
write_rate-requires-then-next-clause-ran_value c =
    let a = c.before.before.before.before.before.before.before.args in
    sym (flag a.w.now a.k a.clock.0 a.size.0 a.left.count a.left.bytes.0 _ c.before.before.before.before.rate_at-rate.ensures false c.before.before.before.if-rate.false)

pub returns-then-next : goal.returns-then-next
returns-then-next c =
    let a = c.before.before.before.before.before.before.before.before.before.before.args in
    c.before.before.write_rate-then-next.ensures
    ∙ begins a.w.now a.k a.clock.0 a.size.0 a.left.count a.left.bytes.0 _ c.before.before.before.before.before.before.before.rate_at-rate.ensures c.before.before.before.before.before.before.if-rate.false _ c.before.before.before.before.before.begin-next-2.ensures

pub returns-else-next : goal.returns-else-next
returns-else-next c =
    let a = c.before.before.before.before.before.before.args in
    stays a.w.now a.k a.clock.0 a.size.0 a.left.count a.left.bytes.0 _ c.before.before.before.rate_at-rate.ensures c.before.before.if-rate.false _ c.before.begin-next-2.ensures c.if-next.false

pub returns-then-counted : goal.returns-then-counted
returns-then-counted c =
    let a = c.args in
    goes_on a.w.now a.k a.clock.0 a.size.0 a.left.count a.left.bytes.0 _ c.rate_at-rate.ensures
    c.if-rate.true _ c.count-counted.ensures c.if-counted.true
