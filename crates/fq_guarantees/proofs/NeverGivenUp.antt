-- From fresh no measurement is given up: each flow sheds load by PIE, and a fresh one has none that runs.
use mathlib.Core.Path.{◌≡◌, ap}
use mathlib.Core.Bool.{false}
use Prim.Native.Nat.{ℕ, ◌<◌}
use Rattle.pie_guarantees.proofs.NeverGivenUp as proved
use Rattle.pie_words.specs.Flags.{is_set}
use Rattle.fq_state.specs.Fresh.{fresh, fresh_refusal}
use Rattle.fq_state.specs.declared.Flow.{Flow}
use Rattle.fq_state.specs.declared.Settings.{Settings}
use Rattle.fq_guarantees.specs.NeverGivenUp.{NeverGivenUp}
use Rattle.fq_guarantees.specs.Shedding.{flow_queue, own}
use Rattle.fq_guarantees.specs.SixtyFour.{fresh64}
use Rattle.fq_guarantees.proofs.AllowanceLasts.{fresh-flow}
use Rattle.fq_guarantees.proofs.Sheds.{flow-sheds}

none_runs : (f : ℕ) (settings : Settings) (clock : ℕ) → f < 64 → fresh_refusal settings clock ≡ 0 →
    is_set (own f (fresh settings clock)).measuring ≡ false
none_runs f settings clock h e = ap (λ (x : Flow). is_set x.measuring) (fresh-flow f settings clock h e)

pub never-given-up : NeverGivenUp
never-given-up f settings clock calls h e =
    proved.never-given-up (flow_queue f) (flow-sheds f h) (fresh64 settings clock) calls (none_runs f settings clock h e)
