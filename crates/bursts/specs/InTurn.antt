-- A burst as a list of calls: what is left is what the single entries leave one after the other, and each answer stands at its place.
use Rattle.std.specs.Prelude.{◌≡◌, ℕ, ◌≤◌, ◌<◌, get_or, length}
use mathlib.Core.List.{List, foldl}
use Rattle.calls.specs.Ring.{listed}
use Rattle.bursts.specs.Kind.{BurstKind}
use Rattle.bursts.specs.Burst.{burst, call, word_to}

-- what the first n calls leave
abbrev pub left_by : (k : BurstKind) → k.kind.State → (calls : List ℕ) (n : ℕ) → k.kind.State
left_by k q calls n = foldl k.kind.next q (listed n (call k calls))

pub record InTurn (k : BurstKind) (q : k.kind.State) (calls answers : List ℕ) (n : ℕ) : Type 0 where
  pub left : (burst k q calls answers n).lent ≡ left_by k q calls n
  pub answered : (i : ℕ) → i < n → n ≤ length answers →
      get_or (burst k q calls answers n).answers i 0 ≡ word_to k (left_by k q calls i) (call k calls i)

abbrev pub AnsweredInTurn : Type 1
AnsweredInTurn = (k : BurstKind) (q : k.kind.State) (calls answers : List ℕ) (n : ℕ) → InTurn k q calls answers n
