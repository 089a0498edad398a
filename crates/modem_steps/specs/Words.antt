-- What the inner functions write.
use Rattle.std.specs.Prelude.{List, ℕ, set}
use Rattle.docsis_pie.specs.declared.DocsisPie.{DocsisPie}
use Rattle.docsis_pie.specs.declared.Phase.{Phase}

-- the words that the rules of an arrival change: accumulated probability, allowance and activity
abbrev pub pie_words : (words : List ℕ) → DocsisPie → List ℕ
pie_words w pie = set (set (set w 8 pie.accumulated.0) 10 pie.allowance.0) 12 pie.phase.activity.0

-- the words of the phase: reset time and activity
abbrev pub phase_words : (words : List ℕ) → Phase → List ℕ
phase_words w phase = set (set w 11 phase.reset.0) 12 phase.activity.0
