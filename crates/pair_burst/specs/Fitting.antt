-- What the inner functions of a burst ask for and keep: no entry's promise cites it.
use Rattle.std.specs.Prelude.{◌≡◌, Bool, true, false, List, [], ℕ, ◌+◌, ◌≤◌, ◌<◌, ltb, get_or, length}
use Rattle.pie.specs.Constants.{most_verdicts}
use Rattle.pie.specs.Verdicts.{total}
use Rattle.bursts.specs.Answers.{answer_word}
use Rattle.pair_rules.specs.WellFormed.{well_formed}
use Rattle.pair_rules.specs.declared.Which.TheVariants.{Intercom}
use Rattle.pair_words.specs.Words.{pair_of, shared_of, state_of, which_of}
use Rattle.pair_burst.specs.Calls.{asked, request_at}
use Rattle.pair_burst.specs.Burst.{Lent, lent, answer_to, after}

-- the words of both queues in one list, the intercom's first
abbrev pub lent_both : (shared : List ℕ) (both : List (List ℕ)) (handles sizes : List ℕ) → Lent
lent_both shared both handles sizes = lent Intercom shared (get_or both 0 []) (get_or both 1 []) handles sizes

-- well-formed records in words of their lengths, tables that fit, and room in both queues' counts for so many arrivals
abbrev pub Ready : Lent → (arrivals : ℕ) → Type 0
Ready q arrivals =
    (length q.shared ≡ 6)
    × (length q.intercom ≡ 21)
    × (length q.passengers ≡ 21)
    × (well_formed (pair_of false q.shared q.intercom q.passengers) ≡ true)
    × (length q.handles ≡ (shared_of q.shared).slots)
    × (length q.sizes ≡ (shared_of q.shared).slots)
    × (total (state_of q.intercom).verdicts + arrivals ≤ most_verdicts)
    × (total (state_of q.passengers).verdicts + arrivals ≤ most_verdicts)

-- what a call of this kind takes of the records and tables: well-formed records, but for a tick tables that fit, for an arrival room
abbrev pub Fitting : (second : Bool) (kind : ℕ) (shared own other handles sizes : List ℕ) → Type 0
Fitting second kind shared own other handles sizes =
    (length shared ≡ 6)
    × (length own ≡ 21)
    × (well_formed (pair_of second shared own other) ≡ true)
    × ((ltb kind 3 ≡ true) → (length handles ≡ (shared_of shared).slots) × (length sizes ≡ (shared_of shared).slots))
    × ((ltb kind 2 ≡ true) → total (state_of own).verdicts < most_verdicts)

-- the call at this place on a queue is answered by this word and leaves everything as it was
abbrev pub Stays :
    (second : Bool) (kind : ℕ) (shared own other handles sizes : List ℕ) (calls : List ℕ) (at word : ℕ) → Type 0
Stays second kind shared own other handles sizes calls at word =
    let q = lent (which_of second) shared own other handles sizes in
    let c = asked (which_of second) (request_at kind calls at) in
    (word ≡ answer_word (answer_to q c)) × (q ≡ after q c)
