-- What arrival rules 1 to 7 (document 01, 'Arrival') ask for each verdict, in plain numbers. Rules 1 and 2, and whether the queue is inactive
-- (Q-12), are the kind of queue's own; rules 3 to 7 read its PIE record, its target and its bytes.
use Rattle.std.specs.Prelude.{◌≡◌, Bool, true, ◌⊎◌, ℕ, ◌+◌, ◌*◌, ◌≤◌, ◌<◌}
use Rattle.units.specs.Kinds.{tenth, whole}
use Rattle.pie.specs.Constants.{most_accumulated, small_queue}
use Rattle.pie.specs.declared.Pie.{Pie}
use Rattle.pie.specs.declared.Verdict.{Verdict}
use Rattle.pie.specs.declared.Verdict.TheVariants.{Enqueued, Marked, DroppedBytes, DroppedSlots, DroppedEarly}

abbrev pub Rule3 : Pie → Type 0
Rule3 pie = 0 < pie.allowance.0

abbrev pub Rule4 : Pie → (target : ℕ) → Type 0
Rule4 pie target = (2 * pie.old.0 < target) × (5 * pie.prob.0 < whole)

abbrev pub Rule5 : (bytes : ℕ) → Type 0
Rule5 bytes = bytes ≤ small_queue

-- after rule 5 the probability is added to the accumulated one (Q-3): below 0.85 the sum enqueues
abbrev pub LowSum : Pie → Type 0
LowSum pie = 20 * (pie.accumulated.0 + pie.prob.0) < 17 * whole

-- at 8.5 or more it is early whatever u is
abbrev pub HighSum : Pie → Type 0
HighSum pie = most_accumulated ≤ pie.accumulated.0 + pie.prob.0

-- otherwise u decides
abbrev pub Drawn : Pie → (u : ℕ) → Type 0
Drawn pie u = u < pie.prob.0

abbrev pub Rule6 : Pie → (u : ℕ) → Type 0
Rule6 pie u = ¬ LowSum pie × (HighSum pie ⊎ Drawn pie u)

-- rule 6 marks an ECN-capable packet while the probability is below one tenth (Q-2); any other it drops
abbrev pub Marks : Pie → (ecn : Bool) → Type 0
Marks pie ecn = (ecn ≡ true) × (pie.prob.0 < tenth)

-- what a kind of queue asks by rules 1 and 2, and when it is inactive
pub record Limits : Type 1 where
  pub Rule1 : Type 0
  pub Rule2 : Type 0
  pub Inactive : Type 0

-- the queue is active, rules 1 to 5 fail, and rule 6 holds
abbrev pub EarlyGrounds : Limits → Pie → (target bytes u : ℕ) → Type 0
EarlyGrounds l pie target bytes u =
    ¬ l.Rule1 × ¬ l.Rule2 × ¬ l.Inactive × ¬ Rule3 pie × ¬ Rule4 pie target × ¬ Rule5 bytes × Rule6 pie u

-- what the rules ask for each verdict; enqueued where rule 6 fails is rule 7
abbrev pub Grounds : Limits → Pie → (target bytes : ℕ) (ecn : Bool) (u : ℕ) → Verdict → Type 0
Grounds l pie target bytes ecn u DroppedBytes = l.Rule1
Grounds l pie target bytes ecn u DroppedSlots = ¬ l.Rule1 × l.Rule2
Grounds l pie target bytes ecn u Enqueued =
    ¬ l.Rule1 × ¬ l.Rule2 × (l.Inactive ⊎ Rule3 pie ⊎ Rule4 pie target ⊎ Rule5 bytes ⊎ ¬ Rule6 pie u)
Grounds l pie target bytes ecn u Marked = EarlyGrounds l pie target bytes u × Marks pie ecn
Grounds l pie target bytes ecn u DroppedEarly = EarlyGrounds l pie target bytes u × ¬ Marks pie ecn
