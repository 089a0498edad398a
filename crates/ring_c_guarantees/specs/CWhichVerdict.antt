-- Question 1 for obikuteru_arrival: was that packet shed because the rule required it? For any words, any tables and any arguments: where
-- the call is not refused it answers a verdict's number, 0 to 4, and each number exactly when the rules of document 01, 'Arrival', with the
-- profiles of Q-12, require it. The rules are stated in the numbers of struct obikuteru_state, as the call finds them.
use Rattle.std.specs.Prelude.{◌≡◌, Bool, true, List, ◌⊎◌, ◌↔◌, ℕ, ◌+◌, ◌*◌, ◌≤◌, ◌<◌}
use Rattle.units.specs.Kinds.{tenth, whole}
use Rattle.pie.specs.Constants.{most_accumulated, small_queue}
use Rattle.ring.specs.Calls.{arrive}
use Rattle.ring_words.specs.Lent.{code_given}
use Rattle.ring_c_guarantees.specs.Fields.{allowance_in, buffer_in, bytes_in, count_in}
use Rattle.ring_c_guarantees.specs.MoreFields.{accumulated_in, active_in, old_delay_in}
use Rattle.ring_c_guarantees.specs.Fields.{probability_in, slots_in, target_in}

abbrev pub Rule1 : (words : List ℕ) (size : ℕ) → Type 0
Rule1 w size = buffer_in w < bytes_in w + size

abbrev pub Rule2 : (words : List ℕ) → Type 0
Rule2 w = count_in w ≡ slots_in w

-- an inactive queue has rules 1 and 2 alone (Q-12); where the arrival turns it active, the allowance is full, and rule 3 enqueues too
abbrev pub Inactive : (words : List ℕ) → Type 0
Inactive w = active_in w ≡ 0

abbrev pub Rule3 : (words : List ℕ) → Type 0
Rule3 w = 0 < allowance_in w

abbrev pub Rule4 : (words : List ℕ) → Type 0
Rule4 w = (2 * old_delay_in w < target_in w) × (5 * probability_in w < whole)

abbrev pub Rule5 : (words : List ℕ) → Type 0
Rule5 w = bytes_in w ≤ small_queue

-- rule 6: the accumulated probability and the probability (Q-3) come to 0.85 or more, and to 8.5 or more, or u is below the probability
abbrev pub Rule6 : (words : List ℕ) (u : ℕ) → Type 0
Rule6 w u =
    ¬ (20 * (accumulated_in w + probability_in w) < 17 * whole)
    × (most_accumulated ≤ accumulated_in w + probability_in w ⊎ u < probability_in w)

-- rule 6 marks an ECN-capable packet while the probability is below one tenth (Q-2); any other it drops
abbrev pub Marks : (words : List ℕ) (ecn : Bool) → Type 0
Marks w ecn = (ecn ≡ true) × (probability_in w < tenth)

-- the queue is active, rules 1 to 5 fail, and rule 6 holds
abbrev pub Early : (words : List ℕ) (size u : ℕ) → Type 0
Early w size u = ¬ Rule1 w size × ¬ Rule2 w × ¬ Inactive w × ¬ Rule3 w × ¬ Rule4 w × ¬ Rule5 w × Rule6 w u

-- what each answer tells; enqueued where rule 6 fails is rule 7
pub record CDecided (words : List ℕ) (size : ℕ) (ecn : Bool) (u code : ℕ) : Type 0 where
  pub verdict : code < 5
  pub enqueued : (code ≡ 0) ↔ (¬ Rule1 words size × ¬ Rule2 words
      × (Inactive words ⊎ Rule3 words ⊎ Rule4 words ⊎ Rule5 words ⊎ ¬ Rule6 words u))
  pub marked : (code ≡ 1) ↔ (Early words size u × Marks words ecn)
  pub dropped-bytes : (code ≡ 2) ↔ Rule1 words size
  pub dropped-slots : (code ≡ 3) ↔ (¬ Rule1 words size × Rule2 words)
  pub dropped-early : (code ≡ 4) ↔ (Early words size u × ¬ Marks words ecn)

abbrev pub CWhichVerdict : Type 0
CWhichVerdict =
    (words handles sizes : List ℕ) (clock handle size : ℕ) (ecn : Bool) (u : ℕ) →
    let code = code_given words (arrive handles sizes clock handle size ecn u) in code < 100 → CDecided words size ecn u code
