use mathlib.Core.Path.{ap, sym, ◌∙◌}
use mathlib.Core.Bool.{Bool, ◌&&◌}
use Prim.Native.Nat.{ℕ}
use lib.ListN.{get_or}
use Rattle.schedule.specs.WellFormed.{flow_fits}
use Rattle.schedule.proofs.Tallied.{every_more, every-none}
use Rattle.schedule.proofs.testing.every_flow_fits.Goals as goal

pub loop-flow-init : goal.loop-flow-init
loop-flow-init c = sym (every-none _)

pub loop-flow-preserved : goal.loop-flow-preserved
loop-flow-preserved c =
    let a = c.args in
    let test : ℕ → Bool = λ j. flow_fits (get_or a.times.now j 0) (get_or a.counts.now j 0) (get_or a.deficits.now j 0) in
    ap (λ b. b && test c.loop-flow.flow) c.loop-flow.invariant ∙ sym (every_more c.loop-flow.flow test)
