-- The decimal digits of a number, in ASCII.
use Rattle.std.specs.Prelude.{cond, List, [], ◌∷◌, ℕ, zero, suc, ◌+◌, ◌/◌, ◌%◌, ltb}

-- the digits of n, at most `places` of them, in front of `after`
unfoldable pub spelled : (places n : ℕ) (after : List ℕ) → List ℕ
spelled zero n after = after
spelled (suc places) n after =
    let digit = 48 + n % 10 in
    cond (ltb n 10) (digit ∷ after) (spelled places (n / 10) (digit ∷ after))

-- the digits of n with no leading zero; no number below 2^64 has more than 20
unfoldable pub digits_of : (n : ℕ) → List ℕ
digits_of n = spelled 20 n []
