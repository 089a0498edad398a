-- Question 1 for a modem's flow: each verdict is given to an accepted arrival exactly when rules 1 to 15 (docs/DOCSIS-PIE.md, part 4) require
-- it, in plain numbers. Rules 4, 6, 8 and 15 give no verdict: they move the accumulated probability and the activity.
use Rattle.std.specs.Prelude.{◌≡◌, cond, List, ◌⊎◌, ◌↔◌, ℕ, ◌+◌, ◌*◌, ◌/◌, ◌≤◌, ◌<◌, min, eqb}
use Rattle.units.specs.Kinds.{whole}
use Rattle.pie.specs.declared.Verdict.{Verdict}
use Rattle.pie.specs.declared.Verdict.TheVariants.{Enqueued, Marked, DroppedBytes, DroppedSlots, DroppedEarly}
use Rattle.refusals.specs.Answer.{verdict}
use Rattle.docsis_pie.specs.Constants.{high, inactive, low, mean_packet, small_queue}
use Rattle.docsis_pie.specs.declared.DocsisPie.{DocsisPie}
use Rattle.modem_flow.specs.Arrival.{arrival}
use Rattle.modem_flow.specs.declared.State.{State}

abbrev pub Rule1 : State → (size : ℕ) → Type 0
Rule1 s size = s.settings.buffer.0 < s.backlog.bytes.0 + size

abbrev pub Rule2 : State → Type 0
Rule2 s = s.backlog.count ≡ s.settings.slots

abbrev pub Rule3 : State → Type 0
Rule3 s = 0 < s.pie.allowance.0

abbrev pub Rule5 : State → Type 0
Rule5 s = (s.pie.phase.activity.0 ≡ inactive) × (3 * s.backlog.bytes.0 < s.settings.buffer.0)

-- rule 7: p scaled by the packet's size, at most 0.85
abbrev pub Scaled : State → (size : ℕ) → ℕ
Scaled s size = min (s.pie.prob.0 * size / mean_packet) low

-- rules 4 and 8: where p is 0 the sum begins at 0; it stops at 8.5
abbrev pub Sum : State → (size : ℕ) → ℕ
Sum s size = min (cond (eqb s.pie.prob.0 0) 0 s.pie.accumulated.0 + Scaled s size) high

abbrev pub Rule9 : State → Type 0
Rule9 s = (2 * s.pie.old.0 < s.settings.target.0) × (5 * s.pie.prob.0 < whole)

abbrev pub Rule10 : State → Type 0
Rule10 s = s.backlog.bytes.0 ≤ small_queue

abbrev pub Rule11 : State → (size : ℕ) → Type 0
Rule11 s size = Sum s size < low

abbrev pub Rule12 : State → (size : ℕ) → Type 0
Rule12 s size = Sum s size ≡ high

abbrev pub Rule13 : State → (size u : ℕ) → Type 0
Rule13 s size u = u < Scaled s size

-- what the rules ask for each verdict; enqueued where rules 12 and 13 fail is rule 14; a modem marks nothing
abbrev pub Grounds : State → (size u : ℕ) → Verdict → Type 0
Grounds s size u DroppedBytes = Rule1 s size
Grounds s size u DroppedSlots = ¬ Rule1 s size × Rule2 s
Grounds s size u Enqueued =
    ¬ Rule1 s size × ¬ Rule2 s
    × (Rule3 s ⊎ Rule5 s ⊎ Rule9 s ⊎ Rule10 s ⊎ Rule11 s size ⊎ ¬ (Rule12 s size ⊎ Rule13 s size u))
Grounds s size u DroppedEarly =
    ¬ Rule1 s size × ¬ Rule2 s
    × ¬ Rule3 s × ¬ Rule5 s × ¬ Rule9 s × ¬ Rule10 s × ¬ Rule11 s size × (Rule12 s size ⊎ Rule13 s size u)
Grounds s size u Marked = ⊥

-- where an arrival is answered with the verdict v, v is w exactly when the rules ask for w
abbrev pub WhichVerdict : Type 0
WhichVerdict =
    (s : State) (row handles sizes : List ℕ) (clock size u : ℕ) (v : Verdict) →
    (arrival s row handles sizes clock size u).answer ≡ verdict v →
    (w : Verdict) → (v ≡ w) ↔ Grounds s size u w
