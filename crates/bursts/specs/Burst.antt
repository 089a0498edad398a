-- What the single entries do with a list of calls, one after the other, each given what the last one left.
use Rattle.std.specs.Prelude.{Bool, cond, ◌&&◌, List, ℕ, zero, suc, ◌*◌, ◌/◌, ◌%◌, eqb, length, set}
use Rattle.bursts.specs.Kind.{BurstKind}

-- the i-th call
abbrev pub call : (k : BurstKind) (calls : List ℕ) (i : ℕ) → k.kind.Call
call k calls i = k.call_at calls (k.numbers * i)

-- the word of the answer to a call
abbrev pub word_to : (k : BurstKind) → k.kind.State → k.kind.Call → ℕ
word_to k q c = k.word (k.kind.answer q c)

-- what the caller lends, and the answers
pub record Done (k : BurstKind) : Type 0 where
  pub lent : k.kind.State
  pub answers : List ℕ

abbrev pub done : (k : BurstKind) → k.kind.State → (answers : List ℕ) → Done k
done k q answers = record { lent = q; answers = answers }

-- the first n calls, in turn: the answer to each is written at its place
unfoldable pub burst : (k : BurstKind) → k.kind.State → (calls answers : List ℕ) (n : ℕ) → Done k
burst k q calls answers zero = done k q answers
burst k q calls answers (suc n) =
    let before = burst k q calls answers n in
    let c = call k calls n in
    done k (k.kind.next before.lent c) (set before.answers n (word_to k before.lent c))

-- so many numbers for each answer
abbrev pub fits : (k : BurstKind) (calls answers : List ℕ) → Bool
fits k calls answers = eqb (length calls % k.numbers) 0 && eqb (length calls / k.numbers) (length answers)

-- all calls, or none where the lengths do not fit
abbrev pub outcome : (k : BurstKind) → k.kind.State → (calls answers : List ℕ) → Done k
outcome k q calls answers = cond (fits k calls answers) (burst k q calls answers (length answers)) (done k q answers)
