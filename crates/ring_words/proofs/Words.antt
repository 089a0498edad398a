-- Twenty-three words and the state that they hold.
use mathlib.Core.Path.{◌≡◌, refl}
use mathlib.Core.List.{List, []}
use Prim.Native.Nat.{ℕ, ◌+◌}
use lib.ListN.{get_or, length}
use Rattle.pie.specs.Verdicts.{place_of}
use Rattle.pie.specs.declared.Verdict.{Verdict}
use Rattle.pie.specs.declared.Verdict.TheVariants.{Enqueued, Marked, DroppedBytes, DroppedSlots, DroppedEarly}
use Rattle.ring.specs.declared.State.{State}
use Rattle.ring_words.specs.Words.{state_of, state_words}
use Rattle.pie_words.proofs.Flags.{flag-says}
use Rattle.laws.proofs.Written.{written_out}

-- the counts are five words in a row
pub count_word : (w : List ℕ) (v : Verdict) → get_or (state_of w).verdicts (place_of v) 0 ≡ get_or w (16 + place_of v) 0
unfolding state_of
count_word w Enqueued = refl
count_word w Marked = refl
count_word w DroppedBytes = refl
count_word w DroppedSlots = refl
count_word w DroppedEarly = refl

-- only the words of the flags are read of those written over
pub over_zeros : (l : List ℕ) (s : State) → get_or l 10 0 ≡ 0 → get_or l 22 0 ≡ 0 → state_words l s ≡ state_words [] s
unfolding state_words
over_zeros l s e f = rw (e, f)

-- the words of a state hold that state
pub back : (w : List ℕ) (s : State) → length s.verdicts ≡ 5 → state_of (state_words w s) ≡ s
unfolding state_of state_words
back w s h =
    rw (flag-says (get_or w 10 0) s.pie.rate.measuring, flag-says (get_or w 22 0) s.active, ← (written_out 5 s.verdicts h))

-- the state that any words hold has five counts
pub five-counts : (w : List ℕ) → length (state_of w).verdicts ≡ 5
unfolding state_of
five-counts w = refl

pub words_long : (w : List ℕ) (s : State) → length (state_words w s) ≡ 23
unfolding state_words
words_long w s = refl
