-- `State::turns_inactive`: the three tests are the definition's own.
use Rattle.ring.proofs.Facts.{facts}
use Rattle.ring.proofs.State.turns_inactive.Goals as goal

pub refills-quiet-requires : goal.refills-quiet-requires
refills-quiet-requires c =
    let a = c.before.before in
    let f = facts a.args.self a.requires.self_value in (a.requires.after_le_longest, f.old-high)

pub returns : goal.returns
returns c =
    let t = c.before in
    simp (c.is_calm.ensures, t.above_third-loaded.ensures, t.before.refills-quiet.ensures)
