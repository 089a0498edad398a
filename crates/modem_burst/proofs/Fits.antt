-- What `record_fits` tells of a flow.
use mathlib.Core.Path.{◌≡◌}
use mathlib.Core.Bool.{true, not, ◌&&◌}
use mathlib.Core.List.{List}
use Prim.Native.Nat.{ℕ, ◌≤◌}
use borrow.Author.Tests.{ltb-false, not-true}
use Rattle.laws.proofs.Tests.{and_left, and_right}
use Rattle.pie.specs.Constants.{most_verdicts}
use Rattle.pie.specs.Verdicts.{total}
use Rattle.modem_flow.specs.State.{formed, well_formed}
use Rattle.modem_flow.specs.declared.State.{State}
use Rattle.modem_flow.proofs.Facts.{record-formed, row_fits}
use Rattle.modem.specs.Calls.{flow_refused}
use Rattle.modem.specs.Counts.{row_of}

pub fits : (flow : ℕ) (s : State) (counts : List (List ℕ)) → not (flow_refused flow) && well_formed s (row_of counts flow) ≡ true →
    (flow ≤ 15) × (formed s ≡ true) × (total (row_of counts flow) ≤ most_verdicts)
fits flow s counts both =
    let good = and_right (not (flow_refused flow)) _ both in
    (ltb-false 15 flow (not-true (flow_refused flow) (and_left (not (flow_refused flow)) _ both)), record-formed _ _ good, row_fits _ _ good)
