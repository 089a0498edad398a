-- Question 1: was that packet shed because the rule required it? Each of the five verdicts is given to an accepted arrival exactly when the
-- rules of document 01, 'Arrival', require it, with the profiles of Q-12.
use Rattle.std.specs.Prelude.{◌≡◌, Bool, true, false, List, ◌⊎◌, ◌↔◌, ℕ, ◌+◌, ◌*◌, ◌≤◌, ◌<◌}
use Rattle.units.specs.Kinds.{tenth, whole}
use Rattle.pie.specs.Constants.{most_accumulated, small_queue}
use Rattle.pie.specs.declared.Verdict.{Verdict}
use Rattle.pie.specs.declared.Verdict.TheVariants.{Enqueued, Marked, DroppedBytes, DroppedSlots, DroppedEarly}
use Rattle.ring.specs.declared.State.{State}
use Rattle.refusals.specs.Answer.{verdict}
use Rattle.ring.specs.Calls.{arrive, reply}

-- what each rule asks
abbrev pub Rule1 : State → (size : ℕ) → Type 0
Rule1 s size = s.settings.buffer.0 < s.backlog.bytes.0 + size

abbrev pub Rule2 : State → Type 0
Rule2 s = s.backlog.count ≡ s.settings.slots

-- an inactive queue has rules 1 and 2 alone (Q-12); where the arrival turns it active, the allowance is full, and rule 3 enqueues too
abbrev pub Inactive : State → Type 0
Inactive s = s.active ≡ false

abbrev pub Rule3 : State → Type 0
Rule3 s = 0 < s.pie.allowance.0

abbrev pub Rule4 : State → Type 0
Rule4 s = (2 * s.pie.old.0 < s.settings.target.0) × (5 * s.pie.prob.0 < whole)

abbrev pub Rule5 : State → Type 0
Rule5 s = s.backlog.bytes.0 ≤ small_queue

-- after rule 5 the probability is added to the accumulated one (Q-3): below 0.85 the sum enqueues
abbrev pub LowSum : State → Type 0
LowSum s = 20 * (s.pie.accumulated.0 + s.pie.prob.0) < 17 * whole

-- at 8.5 or more it is early whatever u is
abbrev pub HighSum : State → Type 0
HighSum s = most_accumulated ≤ s.pie.accumulated.0 + s.pie.prob.0

-- otherwise u decides
abbrev pub Drawn : State → (u : ℕ) → Type 0
Drawn s u = u < s.pie.prob.0

abbrev pub Rule6 : State → (u : ℕ) → Type 0
Rule6 s u = ¬ LowSum s × (HighSum s ⊎ Drawn s u)

-- rule 6 marks an ECN-capable packet while the probability is below one tenth (Q-2); any other it drops
abbrev pub Marks : State → (ecn : Bool) → Type 0
Marks s ecn = (ecn ≡ true) × (s.pie.prob.0 < tenth)

-- the queue is active, rules 1 to 5 fail, and rule 6 holds
abbrev pub EarlyGrounds : State → (size u : ℕ) → Type 0
EarlyGrounds s size u = ¬ Rule1 s size × ¬ Rule2 s × ¬ Inactive s × ¬ Rule3 s × ¬ Rule4 s × ¬ Rule5 s × Rule6 s u

-- what the rules ask for each verdict; enqueued where rule 6 fails is rule 7
abbrev pub Grounds : State → (size : ℕ) (ecn : Bool) (u : ℕ) → Verdict → Type 0
Grounds s size ecn u DroppedBytes = Rule1 s size
Grounds s size ecn u DroppedSlots = ¬ Rule1 s size × Rule2 s
Grounds s size ecn u Enqueued = ¬ Rule1 s size × ¬ Rule2 s × (Inactive s ⊎ Rule3 s ⊎ Rule4 s ⊎ Rule5 s ⊎ ¬ Rule6 s u)
Grounds s size ecn u Marked = EarlyGrounds s size u × Marks s ecn
Grounds s size ecn u DroppedEarly = EarlyGrounds s size u × ¬ Marks s ecn

-- where an arrival is answered with the verdict v, v is w exactly when the rules ask for w
abbrev pub WhichVerdict : Type 0
WhichVerdict =
    (s : State) (handles sizes : List ℕ) (clock handle size : ℕ) (ecn : Bool) (u : ℕ) (v : Verdict) →
    (reply s (arrive handles sizes clock handle size ecn u)).answer ≡ verdict v →
    (w : Verdict) → (v ≡ w) ↔ Grounds s size ecn u w
