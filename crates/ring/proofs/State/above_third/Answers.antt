-- `State::above_third`: the queued bytes are at most the buffer, which is in range.
use native.Mathlib.Omega.{arith}
use Rattle.ring.proofs.Facts.{facts}
use Rattle.ring.proofs.State.above_third.Goals as goal

pub overflow_mul-result : goal.overflow_mul-result
overflow_mul-result c = let a = c.before in let f = facts a.args.self a.requires in omega arith
