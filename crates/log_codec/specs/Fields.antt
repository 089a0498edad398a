-- Fields of given widths, one after the other.
use Rattle.std.specs.Prelude.{List, [], ◌∷◌, ◌++◌, ℕ, ◌+◌, ◌^◌, ◌<◌, get_or, take, drop}
use Rattle.log_codec.specs.Numbers.{bytes_of, number_of}

-- numbers one after the other, each at its width
abbrev pub joined : (widths numbers : List ℕ) → List ℕ
joined [] numbers = []
joined (w ∷ widths) numbers = bytes_of w (get_or numbers 0 0) ++ joined widths (drop 1 numbers)

-- the numbers of these widths that stand one after the other from `at` on
abbrev pub parted : (widths bytes : List ℕ) (at : ℕ) → List ℕ
parted [] bytes at = []
parted (w ∷ widths) bytes at = number_of (take w (drop at bytes)) ∷ parted widths bytes (at + w)

-- how many bytes they take
abbrev pub total : (widths : List ℕ) → ℕ
total [] = 0
total (w ∷ widths) = w + total widths

-- each number fits its width
abbrev pub Fit : (widths numbers : List ℕ) → Type 0
Fit [] numbers = Unit
Fit (w ∷ widths) numbers = (get_or numbers 0 0 < 256 ^ w) × Fit widths (drop 1 numbers)

-- a list of bytes
abbrev pub AreBytes : List ℕ → Type 0
AreBytes [] = Unit
AreBytes (b ∷ bytes) = (b < 256) × AreBytes bytes
