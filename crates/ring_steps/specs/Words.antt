-- What the inner functions write.
use Rattle.std.specs.Prelude.{cond, List, ℕ, set}
use Rattle.pie.specs.DropDecision.{sum_of}
use Rattle.pie.specs.Verdicts.{is_early}
use Rattle.pie.specs.declared.Verdict.{Verdict}
use Rattle.ring.specs.Arrival.{arrived_pie}
use Rattle.pie_words.specs.Words.{pie_at}
use Rattle.ring_words.specs.Words.{state_of}

-- the accumulated probability past rule 5 (Q-3): an early verdict sets it to 0
abbrev pub drawn_words : (words : List ℕ) → Verdict → List ℕ
drawn_words w v = set w 8 (cond (is_early v) 0 (sum_of (pie_at w 5)))

-- the accumulated probability after rules 1 to 7 (Q-3); an inactive queue's stays (Q-12)
abbrev pub decided_words : (words : List ℕ) → Verdict → List ℕ
decided_words w v = set w 8 (arrived_pie (state_of w) v).accumulated.0
