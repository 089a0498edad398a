-- `draw`: an arm for each verdict.
use Rattle.ring_steps.proofs.arriving.draw.Goals as goal
use native.Mathlib.Omega.{arith}

pub pie_at-requires : goal.pie_at-requires
pie_at-requires c = omega (arith, c.requires.0)

pub draw-found-requires : goal.draw-found-requires
draw-found-requires c = let q = c.requires in rw c.pie_at.ensures (q.1, q.2)
