-- One call more after some, and how many numbers a list has that fits.
use mathlib.Core.Path.{◌≡◌}
use mathlib.Core.Bool.{true}
use mathlib.Core.List.{List}
use Prim.Native.Nat.{ℕ, suc, ◌+◌, ◌*◌, ◌/◌, ◌%◌}
use native.Mathlib.Nat.{mod-add-div}
use native.Mathlib.Omega.{arith}
use lib.Dec.{eqb}
use lib.ListN.{length, set}
use borrow.Author.Tests.{eqb-true}
use Rattle.laws.proofs.Tests.{and_left, and_right}
use Rattle.bursts.specs.Kind.{BurstKind}
use Rattle.bursts.specs.Burst.{burst, done, fits, word_to}

-- one call: its answer's word, and what it leaves
abbrev pub Step : (k : BurstKind) → k.kind.State → (calls : List ℕ) (at word : ℕ) → k.kind.State → Type 0
Step k q calls at word next = (word ≡ word_to k q (k.call_at calls at)) × (next ≡ k.kind.next q (k.call_at calls at))

module _ (k : BurstKind) (q : k.kind.State) (calls answers : List ℕ) (n : ℕ) (given : k.kind.State) (said : List ℕ) (word : ℕ) (next : k.kind.State) where
  pub one_more : done k given said ≡ burst k q calls answers n → Step k given calls (k.numbers * n) word next →
      done k next (set said n word) ≡ burst k q calls answers (n + 1)
  unfolding burst
  one_more e (f, g) = let s : n + 1 ≡ suc n = omega arith in rw (s, ← e, f, g)

pub fitting : (k : BurstKind) (calls answers : List ℕ) → fits k calls answers ≡ true → length calls ≡ k.numbers * length answers
fitting k calls answers e =
    let n = length calls in
    let whole : n % k.numbers ≡ 0 = eqb-true _ _ (and_left (eqb (n % k.numbers) 0) _ e) in
    let each : n / k.numbers ≡ length answers = eqb-true _ _ (and_right (eqb (n % k.numbers) 0) _ e) in
    rw (← each) (omega (arith, mod-add-div n k.numbers))
