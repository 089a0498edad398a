-- What Q-3 counts between early verdicts, of any kind of queue that sheds load by PIE: the probability that each accepted arrival past
-- rule 5 adds. EarlyAtLeastApart and EarlyAtMostApart bound it.
use Rattle.std.specs.Prelude.{Bool, false, cond, List, [], ◌∷◌, ℕ, ◌+◌}
use Rattle.pie.specs.DropDecision.{spared}
use Rattle.pie.specs.Verdicts.{is_early}
use Rattle.pie.specs.declared.Verdict.{Verdict}
use Rattle.pie.specs.declared.Verdict.TheVariants.{Enqueued, Marked, DroppedBytes, DroppedSlots, DroppedEarly}
use Rattle.calls.specs.Traces.{Entry}
use Rattle.pie_guarantees.specs.Shedding.{Shedding, Told, decided, departed, nothing, ticked}

-- a mark or an early drop
abbrev pub tells_early : Told → Bool
tells_early nothing = false
tells_early (decided v) = is_early v
tells_early (departed size) = false
tells_early ticked = false

-- the probability that an arrival with this verdict adds: none where rules 1 to 5 decide; an inactive queue's probability is 0
abbrev pub added_at : (k : Shedding) → k.kind.State → Verdict → ℕ
added_at k s Enqueued = cond (spared (k.pie s) (k.target s) (k.bytes s)) 0 (k.pie s).prob.0
added_at k s Marked = (k.pie s).prob.0
added_at k s DroppedBytes = 0
added_at k s DroppedSlots = 0
added_at k s DroppedEarly = (k.pie s).prob.0

abbrev pub added_by : (k : Shedding) → k.kind.State → Told → ℕ
added_by k s nothing = 0
added_by k s (decided v) = added_at k s v
added_by k s (departed size) = 0
added_by k s ticked = 0

-- what a list of entries adds
abbrev pub added : (k : Shedding) → List (Entry k.kind) → ℕ
added k [] = 0
added k (e ∷ rest) = added_by k e.given (k.tells e.answer) + added k rest
