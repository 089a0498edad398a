-- What Q-3 counts between early verdicts: the probability that each accepted arrival past rule 5 adds. EarlyAtLeastApart and
-- EarlyAtMostApart bound it.
use Rattle.std.specs.Prelude.{Bool, false, cond, List, [], ◌∷◌, ℕ, ◌+◌}
use Rattle.pie.specs.DropDecision.{spared}
use Rattle.pie.specs.Verdicts.{is_early}
use Rattle.pie.specs.declared.Verdict.{Verdict}
use Rattle.pie.specs.declared.Verdict.TheVariants.{Enqueued, Marked, DroppedBytes, DroppedSlots, DroppedEarly}
use Rattle.ring.specs.declared.State.{State}
use Rattle.refusals.specs.Answer.{Answer, departed, made, refused, ticked, verdict}
use Rattle.ring_guarantees.specs.Calls.{Entry}

-- a mark or an early drop
abbrev pub is_early_answer : Answer → Bool
is_early_answer (refused number) = false
is_early_answer made = false
is_early_answer (verdict v) = is_early v
is_early_answer (departed handle size) = false
is_early_answer ticked = false

-- the probability that an arrival with this verdict adds: none where rules 1 to 5 decide; an inactive queue's probability is 0
abbrev pub added_at : State → Verdict → ℕ
added_at s Enqueued = cond (spared s.pie s.settings.target.0 s.backlog.bytes.0) 0 s.pie.prob.0
added_at s Marked = s.pie.prob.0
added_at s DroppedBytes = 0
added_at s DroppedSlots = 0
added_at s DroppedEarly = s.pie.prob.0

abbrev pub added_by : State → Answer → ℕ
added_by s (refused number) = 0
added_by s made = 0
added_by s (verdict v) = added_at s v
added_by s (departed handle size) = 0
added_by s ticked = 0

-- what a list of entries adds
abbrev pub added : List Entry → ℕ
added [] = 0
added (e ∷ rest) = added_by e.given e.answer + added rest
