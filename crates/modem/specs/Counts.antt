-- The verdict counts of sixteen flows, five for each (docs/DOCSIS-PIE.md, parts 2 and 3).
use Rattle.std.specs.Prelude.{List, [], ◌∷◌, ℕ, get_or, set}
use Rattle.pie.specs.Verdicts.{raised}
use Rattle.refusals.specs.Answer.{Answer, departed, made, refused, ticked, verdict}

-- the row of a flow
abbrev pub row_of : (counts : List (List ℕ)) (flow : ℕ) → List ℕ
row_of counts flow = get_or counts flow []

abbrev pub zero_row : List ℕ
zero_row = 0 ∷ 0 ∷ 0 ∷ 0 ∷ 0 ∷ []

-- the counts after a call of this flow that was so answered: an accepted fresh call sets its row to 0, a verdict's count in it rises by
-- one, and nothing else changes
unfoldable pub counts_after : (counts : List (List ℕ)) (flow : ℕ) → Answer → List (List ℕ)
counts_after counts flow (refused number) = counts
counts_after counts flow made = set counts flow zero_row
counts_after counts flow (verdict v) = set counts flow (raised (row_of counts flow) v)
counts_after counts flow (departed handle size) = counts
counts_after counts flow ticked = counts
