-- A call keeps a flow's record and its row well formed: an accepted arrival found room in the row.
use mathlib.Core.Path.{◌≡◌}
use mathlib.Core.Bool.{true}
use Prim.Native.Nat.{◌≤◌}
use native.Mathlib.Omega.{arith}
use lib.ListN.{length}
use Rattle.pie.specs.Constants.{most_verdicts}
use Rattle.pie.specs.Verdicts.{total}
use Rattle.pie.proofs.Counts.{total-raised}
use Rattle.modem_flow.specs.Arrival.{decision_of}
use Rattle.modem_flow.specs.State.{well_formed}
use Rattle.modem_flow.specs.declared.State.{State}
use Rattle.modem_flow.proofs.Facts.{record-formed, row_fits, well-formed}
use Rattle.modem_guarantees.specs.Calls.{Call, arrive, depart, reply, update}
use Rattle.modem_guarantees.specs.Handed.{row_after}
use Rattle.modem_guarantees.specs.Kept.{Kept, row_in}
use Rattle.modem_guarantees.proofs.Replies.{Accepted, acceptance, at-one-reply, reply-formed}

row_kept : (s : State) (c : Call) → total (row_in c) ≤ most_verdicts → total (row_after (reply s c).answer (row_in c)) ≤ most_verdicts
row_kept s c h = at-one-reply (λ r. total (row_after r.answer (row_in c)) ≤ most_verdicts) s c (λ number. h) (go c h)
  where
    go : (c : Call) → total (row_in c) ≤ most_verdicts → Accepted s c → total (row_after (acceptance s c).answer (row_in c)) ≤ most_verdicts
    go (arrive row handles sizes clock handle size u) h a =
        omega (arith, total-raised row (decision_of s size u).verdict, a.total-low)
    go (depart row handles sizes clock) h a = h
    go (update row clock credits) h a = h

pub kept : Kept
kept s c h =
    well-formed (reply s c).state (row_after (reply s c).answer (row_in c))
    (reply-formed s (record-formed s (row_in c) h) c)
    (row_kept s c (row_fits s (row_in c) h))
