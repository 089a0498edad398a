-- When a queue's record needs no further test: what the steps ask for. No entry's promise cites it.
use Rattle.std.specs.Prelude.{◌≡◌, true, ℕ, ◌+◌, ◌≤◌, length}
use Rattle.pie.specs.Constants.{most_verdicts}
use Rattle.pie.specs.Verdicts.{total}
use Rattle.ring.specs.State.{well_formed}
use Rattle.ring_words.specs.Words.{state_of}
use Rattle.ring_words.specs.Lent.{Lent}

-- twenty-three words of a well-formed state, and tables that fit it
abbrev pub Fitting : Lent → Type 0
Fitting q =
    (length q.words ≡ 23)
    × (well_formed (state_of q.words) ≡ true)
    × (length q.handles ≡ (state_of q.words).settings.slots)
    × (length q.sizes ≡ (state_of q.words).settings.slots)

-- and room in its counts for so many arrivals
abbrev pub Ready : Lent → (arrivals : ℕ) → Type 0
Ready q arrivals = Fitting q × (total (state_of q.words).verdicts + arrivals ≤ most_verdicts)
