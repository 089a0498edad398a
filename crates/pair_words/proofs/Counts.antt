-- The counts are five words in a row.
use mathlib.Core.Path.{◌≡◌, refl}
use mathlib.Core.List.{List}
use Prim.Native.Nat.{ℕ, ◌+◌}
use lib.ListN.{get_or}
use Rattle.pie.specs.Verdicts.{place_of}
use Rattle.pie.specs.declared.Verdict.{Verdict}
use Rattle.pie.specs.declared.Verdict.TheVariants.{Enqueued, Marked, DroppedBytes, DroppedSlots, DroppedEarly}
use Rattle.pair_words.specs.Words.{state_of}

pub count_word : (w : List ℕ) (v : Verdict) → get_or (state_of w).verdicts (place_of v) 0 ≡ get_or w (16 + place_of v) 0
unfolding state_of
count_word w Enqueued = refl
count_word w Marked = refl
count_word w DroppedBytes = refl
count_word w DroppedSlots = refl
count_word w DroppedEarly = refl
