-- Question 1 for either queue: each of the five verdicts is given to an accepted arrival exactly when the rules require it. Rule 1 and rules
-- 3 to 7 read the called queue's state alone; rule 2 is that of docs/SHARED-TABLES.md, 16. Grounds (crate pie_guarantees) has what rules 3
-- to 7 ask.
use Rattle.std.specs.Prelude.{◌≡◌, Bool, List, ◌↔◌, ℕ, ◌+◌, ◌≤◌, ◌<◌}
use Rattle.pie.specs.declared.Verdict.{Verdict}
use Rattle.refusals.specs.Answer.{verdict}
use Rattle.pie_guarantees.specs.WhichVerdict.{Grounds, Limits}
use Rattle.pair_rules.specs.Arrival.{arrival}
use Rattle.pair_rules.specs.Queues.{common_slots, common_use, own, reserve_of}
use Rattle.pair_rules.specs.declared.Pair.{Pair}
use Rattle.pair_rules.specs.declared.Which.{Which}

-- the queue's bytes and the packet are above its buffer; its count is at or above its reserve, and no common slot is left; it has no
-- profile, and is never inactive
abbrev pub limits_of : Pair → Which → (size : ℕ) → Limits
limits_of p q size =
    record {
      Rule1 = (own q p).settings.buffer.0 < (own q p).backlog.bytes.0 + size;
      Rule2 = (reserve_of q p.shared ≤ (own q p).backlog.count) × (common_use p ≡ common_slots p.shared);
      Inactive = ⊥;
    }

-- where an arrival at the queue q is answered with the verdict v, v is w exactly when the rules ask for w
abbrev pub WhichVerdict : Type 0
WhichVerdict =
    (p : Pair) (q : Which) (handles sizes : List ℕ) (clock size : ℕ) (ecn : Bool) (u : ℕ) (v : Verdict) →
    (arrival p q handles sizes clock size ecn u).answer ≡ verdict v →
    (w : Verdict) →
    let s = own q p in
    (v ≡ w) ↔ Grounds (limits_of p q size) s.pie s.settings.target.0 s.backlog.bytes.0 ecn u w
