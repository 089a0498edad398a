-- When a flow's record needs no further test: what the steps ask for. No entry's promise cites it.
use Rattle.std.specs.Prelude.{◌≡◌, true, List, ℕ, ◌+◌, ◌≤◌, length}
use Rattle.pie.specs.Constants.{most_verdicts}
use Rattle.pie.specs.Verdicts.{total}
use Rattle.modem_flow.specs.State.{formed}
use Rattle.modem.specs.Counts.{row_of}
use Rattle.modem_words.specs.Words.{state_of}
use Rattle.modem_words.specs.Lent.{Lent}

-- sixteen words of a state that is formed, and tables that fit it
abbrev pub Fitting : (words handles sizes : List ℕ) → Type 0
Fitting words handles sizes =
    (length words ≡ 16)
    × (formed (state_of words) ≡ true)
    × (length handles ≡ (state_of words).settings.slots)
    × (length sizes ≡ (state_of words).settings.slots)

-- one of the sixteen flows, with room in its row for so many arrivals
abbrev pub Ready : (flow : ℕ) → Lent → (arrivals : ℕ) → Type 0
Ready flow q arrivals =
    (flow ≤ 15) × Fitting q.words q.handles q.sizes × (total (row_of q.counts flow) + arrivals ≤ most_verdicts)
