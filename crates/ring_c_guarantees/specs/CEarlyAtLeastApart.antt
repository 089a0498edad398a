-- Q-3 for C calls: from any words, over any list of C calls, each given the words that the last one left, refused ones and other kinds of
-- call anywhere between, with any tables lent to each: the probabilities added after one early verdict, up to and with a later one, come to
-- at least 0.85.
use Rattle.std.specs.Prelude.{◌≡◌, true, List, [], ◌∷◌, ◌++◌, ℕ, ◌*◌, ◌≤◌}
use Rattle.units.specs.Kinds.{whole}
use Rattle.ring.specs.Calls.{Call}
use Rattle.ring_c_guarantees.specs.CCalls.{CEntry, c_trace}
use Rattle.ring_c_guarantees.specs.CSpacing.{added_in, is_early_code}

abbrev pub CEarlyAtLeastApart : Type 0
CEarlyAtLeastApart =
    (words : List ℕ) (calls : List Call) (before : List CEntry) (first : CEntry) (between : List CEntry) (next : CEntry) →
    (later : List CEntry) → c_trace words calls ≡ before ++ first ∷ (between ++ next ∷ later) →
    is_early_code first.code ≡ true → is_early_code next.code ≡ true →
    17 * whole ≤ 20 * added_in (between ++ next ∷ [])
