-- What Q-3 counts between early verdicts, of C calls: the probability that each accepted arrival past rule 5 adds, in words and answer
-- numbers. CEarlyAtLeastApart and CEarlyAtMostApart bound it.
use Rattle.std.specs.Prelude.{Bool, cond, ◌&&◌, ◌||◌, List, [], ◌∷◌, ℕ, ◌+◌, ◌*◌, eqb, leb, ltb}
use Rattle.units.specs.Kinds.{whole}
use Rattle.pie.specs.Constants.{small_queue}
use Rattle.ring.specs.Calls.{Call, arrive, depart, update}
use Rattle.ring_c_guarantees.specs.CCalls.{CEntry}
use Rattle.ring_c_guarantees.specs.Fields.{allowance_in, bytes_in, probability_in, target_in}
use Rattle.ring_c_guarantees.specs.MoreFields.{old_delay_in}

-- a mark (1) or an early drop (4): no call but an arrival is answered either
abbrev pub is_early_code : (code : ℕ) → Bool
is_early_code code = eqb code 1 || eqb code 4

-- rule 3, 4 or 5 holds
abbrev pub spared_in : (words : List ℕ) → Bool
spared_in w =
    ltb 0 (allowance_in w)
    || (ltb (2 * old_delay_in w) (target_in w) && ltb (5 * probability_in w) whole)
    || leb (bytes_in w) small_queue

-- the probability that a call on these words, answered so, adds: an arrival with an early verdict, or enqueued past rule 5, the probability
-- in the words; an inactive queue's is 0
abbrev pub added_with : (words : List ℕ) → Call → (code : ℕ) → ℕ
added_with w (arrive handles sizes clock handle size ecn u) code =
    cond (is_early_code code) (probability_in w) (cond (eqb code 0) (cond (spared_in w) 0 (probability_in w)) 0)
added_with w (depart handles sizes clock) code = 0
added_with w (update clock) code = 0

-- what a list of entries adds
abbrev pub added_in : List CEntry → ℕ
added_in [] = 0
added_in (e ∷ rest) = added_with e.given e.call e.code + added_in rest
