-- `State::ticked`: the update, within a well-formed state's ranges.
use native.Mathlib.Omega.{arith}
use Rattle.modem_flow.proofs.Facts.{facts}
use Rattle.modem_flow.proofs.State.ticked.Goals as goal

pub update-pie-requires-clause-prob_le_most_prob : goal.update-pie-requires-clause-prob_le_most_prob
update-pie-requires-clause-prob_le_most_prob c =
    let a = c.before.before.before in
    let f = facts a.args.self a.requires in
    (f.prob-high, f.old-high, f.reset-high)

pub update-pie-requires-clause-target_bound : goal.update-pie-requires-clause-target_bound
update-pie-requires-clause-target_bound c =
    let a = c.before.before.before in
    let f = facts a.args.self a.requires in
    (f.target-high, omega arith, f.peak-low, f.sustained-low)
