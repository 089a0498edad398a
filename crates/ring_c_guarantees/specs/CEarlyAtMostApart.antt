-- Q-3 for C calls: from any words that obikuteru_well_formed accepts, over any list of C calls, each given the words that the last one
-- left, refused ones and other kinds of call anywhere between, with any tables lent to each: the probabilities added while no early verdict
-- comes and the queue does not turn active come to less than 8.5.
use Rattle.std.specs.Prelude.{◌≡◌, Bool, true, false, not, ◌&&◌, ℕ, ◌<◌, eqb}
use mathlib.Core.List.{List, ◌++◌, Memᴰ}
use Rattle.pie.specs.Constants.{most_accumulated}
use Rattle.ring.specs.State.{well_formed}
use Rattle.ring.specs.Calls.{Call}
use Rattle.ring_words.specs.Words.{state_of}
use Rattle.ring_c_guarantees.specs.CCalls.{CEntry, c_trace}
use Rattle.ring_c_guarantees.specs.CSpacing.{added_in, is_early_code}
use Rattle.ring_c_guarantees.specs.MoreFields.{active_in}

-- the word `active` was 0 and no longer is: the word `accumulated` is set to 0 then (Q-12)
abbrev pub turns_active_at : CEntry → Bool
turns_active_at e = eqb (active_in e.given) 0 && not (eqb (active_in e.returned) 0)

abbrev pub CEarlyAtMostApart : Type 0
CEarlyAtMostApart =
    (words : List ℕ) (calls : List Call) (before between later : List CEntry) → well_formed (state_of words) ≡ true →
    c_trace words calls ≡ before ++ (between ++ later) →
    ((a : CEntry) → Memᴰ a between → (is_early_code a.code ≡ false) × (turns_active_at a ≡ false)) →
    added_in between < most_accumulated
