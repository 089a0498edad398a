use Rattle.pie_words.proofs.measuring.write_rate.Goals as goal
use mathlib.Core.Path.{sym, ◌∙◌}
use Rattle.pie_words.proofs.Writing.{ran_on, rested, started}

pub returns-else-next : goal.returns-else-next
returns-else-next c =
    let a = c.before in rested a.args.w.now a.args.k a.args.next c.if-next.false

pub returns-then-not-ran : goal.returns-then-not-ran
returns-then-not-ran c =
    let a = c.before.before in
    started a.args.w.now a.args.k a.args.next c.before.if-next.true (sym a.requires.ran_value ∙ c.if-not-ran.true)

pub returns-else-not-ran : goal.returns-else-not-ran
returns-else-not-ran c =
    let a = c.before.before in
    ran_on a.args.w.now a.args.k a.args.next c.before.if-next.true (sym a.requires.ran_value ∙ c.if-not-ran.false)
