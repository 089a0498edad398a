-- Where the probability is 0, or an allowance runs, no packet is dropped early: any record, row, tables and numbers.
use Rattle.std.specs.Prelude.{◌≡◌, List, ◌≢◌, ◌⊎◌, ℕ, ◌<◌}
use Rattle.units.specs.Kinds.{none}
use Rattle.pie.specs.declared.Verdict.TheVariants.{DroppedEarly}
use Rattle.refusals.specs.Answer.{verdict}
use Rattle.modem_flow.specs.declared.State.{State}
use Rattle.modem_guarantees.specs.Calls.{arrive, reply}

abbrev pub NeverEarly : Type 0
NeverEarly =
    (s : State) (row handles sizes : List ℕ) (clock handle size u : ℕ) →
    (s.pie.prob.0 ≡ none) ⊎ (0 < s.pie.allowance.0) →
    (reply s (arrive row handles sizes clock handle size u)).answer ≢ verdict DroppedEarly
