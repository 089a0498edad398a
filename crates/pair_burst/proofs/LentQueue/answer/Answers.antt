-- The records stay ready for the calls that are left.
use Rattle.pair_burst.proofs.LentQueue.answer.Goals as goal
use mathlib.Core.Path.{subst, sym}
use Prim.Native.Nat.{suc}
use native.Mathlib.Omega.{arith}
use Rattle.pair_burst.specs.Burst.{Lent}
use Rattle.pair_burst.specs.Fitting.{Ready, lent_both}
use Rattle.pair_burst.proofs.Readiness.{ready-kept, ready-one}

pub answer-requires-clause-ready : goal.answer-requires-clause-ready
answer-requires-clause-ready c = λ t. ready-one _ (suc c.requires.ready.0) (omega arith) (c.requires.ready.1.1 t)

pub returns-clause-ready_after : goal.returns-clause-ready_after
returns-clause-ready_after c = λ n r. (
  c.answer.ensures.both_len_2,
  λ t. subst (λ (q : Lent). Ready q n) (sym c.answer.ensures.sizes_after) (ready-kept _ _ n (r.1 t)),
)
