-- `State::entered`: a well-formed state's count leaves room for one more.
use native.Mathlib.Omega.{arith}
use Rattle.ring.proofs.Facts.{facts}
use Rattle.ring.proofs.State.entered.Goals as goal

pub enter-requires : goal.enter-requires
enter-requires c = let f = facts c.args.self c.requires.self_value in omega arith
