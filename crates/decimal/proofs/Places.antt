-- How many digits are written.
use mathlib.Core.Path.{◌≡◌}
use mathlib.Core.List.{List, [], ◌∷◌}
use Prim.Native.Nat.{ℕ, zero, suc, ◌+◌, ◌/◌, ◌%◌, ◌≤◌}
use native.Mathlib.Omega.{arith}
use lib.Dec.{ltb}
use lib.ListN.{length}
use Rattle.laws.proofs.Choice.{either}
use Rattle.decimal.specs.Digits.{digits_of, spelled}

-- no more digits than places
pub spelled-length : (places n : ℕ) (after : List ℕ) → length (spelled places n after) ≤ places + length after
unfolding spelled
spelled-length zero n after = omega arith
spelled-length (suc m) n after =
    let digit = 48 + n % 10 in
    let h = spelled-length m (n / 10) (digit ∷ after) in
    either (λ l. length l ≤ suc m + length after) (ltb n 10) (digit ∷ after) (spelled m (n / 10) (digit ∷ after)) (omega arith) (omega arith)

pub digits-length : (n : ℕ) → length (digits_of n) ≤ 20
unfolding digits_of
digits-length n = spelled-length 20 n []
