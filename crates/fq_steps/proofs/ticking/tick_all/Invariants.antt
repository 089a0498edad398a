use mathlib.Core.Path.{◌≡◌}
use Rattle.fq_words.specs.Words.{flows_of}
use Rattle.fq_rules.specs.Tick.{ticked_flow}
use Rattle.fq_steps.proofs.Mapped.{mapped}
use Rattle.fq_steps.proofs.ticking.tick_all.Given as goal

abbrev pub invariant-loop-i : goal.invariant-loop-i
invariant-loop-i l =
    flows_of l.flows ≡ mapped (ticked_flow l.common.settings.target.0) l.i (flows_of l.initial.flows)
