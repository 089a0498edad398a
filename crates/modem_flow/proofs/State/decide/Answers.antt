-- `State::decide`: rules 1 and 2, then the drop decision.
use native.Mathlib.Omega.{arith}
use Rattle.modem_flow.proofs.Facts.{facts}
use Rattle.modem_flow.proofs.State.decide.Goals as goal

pub overflow_add-bytes_full : goal.overflow_add-bytes_full
overflow_add-bytes_full c = let f = facts c.args.self c.requires.self_value in omega arith

pub decide-requires-clause-prob_le_most_prob : goal.decide-requires-clause-prob_le_most_prob
decide-requires-clause-prob_le_most_prob c =
    let f = facts c.args.self c.requires.self_value in (f.prob-high, f.old-high, f.accumulated-high)

pub decide-requires-clause-bytes_bound : goal.decide-requires-clause-bytes_bound
decide-requires-clause-bytes_bound c =
    let f = facts c.args.self c.requires.self_value in (omega arith, c.requires.size_le_largest)
