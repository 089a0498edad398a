-- A flow's record and its row of counts stay well formed (docs/DOCSIS-PIE.md, part 2), whatever the flow is asked and whatever tables it is
-- lent.
use Rattle.std.specs.Prelude.{◌≡◌, true, List, ℕ}
use Rattle.modem_flow.specs.State.{well_formed}
use Rattle.modem_flow.specs.declared.State.{State}
use Rattle.modem_guarantees.specs.Calls.{Call, arrive, depart, reply, update}
use Rattle.modem_guarantees.specs.Handed.{row_after}

-- the row that is lent to a call
abbrev pub row_in : Call → List ℕ
row_in (arrive row handles sizes clock handle size u) = row
row_in (depart row handles sizes clock) = row
row_in (update row clock credits) = row

abbrev pub Kept : Type 0
Kept =
    (s : State) (c : Call) → well_formed s (row_in c) ≡ true →
    well_formed (reply s c).state (row_after (reply s c).answer (row_in c)) ≡ true
