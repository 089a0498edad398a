-- No call reads or changes another flow's row, state or tables: a modem's flows, called in any order with one table of counts of sixteen
-- rows, are answered as if each were alone. For every flow the answers to its calls, in order, are those of the same calls to that flow
-- alone, and what the modem then holds of it is what the flow alone would hold (`AsAlone`, crate calls).
use Rattle.std.specs.Prelude.{◌≡◌, List, ℕ, ◌≤◌, length}
use Rattle.calls.specs.Parts.{AsAlone}
use Rattle.modem_guarantees.specs.Modem.{Call, Modem, flow_part}

abbrev pub AsIfAlone : Type 0
AsIfAlone =
    (m : Modem) (calls : List Call) (flow : ℕ) → length m.counts ≡ 16 → flow ≤ 15 → AsAlone (flow_part flow) m calls
