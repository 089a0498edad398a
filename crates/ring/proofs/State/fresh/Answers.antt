-- `State::fresh`: refusal 1, or the fresh state.
use Rattle.ring.specs.Fresh.{fresh}
use Rattle.ring.proofs.State.fresh.Goals as goal

pub returns-then-fits : goal.returns-then-fits
unfolding fresh
returns-then-fits c =
    let r = c.before in
    let m = r.before in
    let e = m.before in
    simp (
      ← e.before.before.in_range.ensures,
      e.if-fits.true,
      c.empty.ensures,
      r.restarted.ensures,
      m.is_calm-active.ensures,
    )

pub returns : goal.returns
unfolding fresh
returns c =
    let u = c.before in
    let e = u.before in
    simp (← e.before.before.in_range.ensures, e.if-fits.false, c.empty-2.ensures, u.unstarted.ensures)
