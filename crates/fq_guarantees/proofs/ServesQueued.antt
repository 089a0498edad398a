-- Choosing ends in any well-formed record where a packet is queued: some flow has it.
use mathlib.Core.List.{List, [], ◌∷◌}
use Prim.Native.Nat.{ℕ, zero, suc, ◌≤◌, ◌<◌}
use native.Mathlib.Omega.{arith}
use lib.ListN.{get_or}
use Rattle.pie.specs.Verdicts.{total}
use Rattle.schedule.specs.Ring.{two_lists}
use Rattle.schedule_guarantees.proofs.ChoosingEnds.{choosing-ends}
use Rattle.fq_state.specs.State.{counts_of}
use Rattle.fq_rules.specs.Departure.{choice_of}
use Rattle.fq_guarantees.specs.ServesQueued.{ServesQueued}
use Rattle.fq_guarantees.proofs.Facts.{facts}
use Rattle.fq_guarantees.proofs.PartsKept.{count_at, two-lists-sound}

some-counted : (counts : List ℕ) → 0 < total counts → (i : ℕ) × (1 ≤ get_or counts i 0)
some-counted [] h = absurd (omega arith)
some-counted (zero ∷ counts) h = let rest = some-counted counts (omega arith) in (suc rest.0, rest.1)
some-counted (suc n ∷ counts) h = (0, omega arith)

pub serves-queued : ServesQueued
serves-queued s h some =
    let counts = counts_of s.flows in
    let k = facts s h.formed in
    let found = some-counted counts (omega (arith, k.totals.counts-are)) in
    let ends = choosing-ends counts (two_lists s.schedule) found.0 (two-lists-sound s h) found.1 in
    record {
      queued = omega (arith, ends.0.holds, count_at s.flows (choice_of s).flow);
      may = ends.0;
      moves = ends.1;
      same = ends.2;
    }
