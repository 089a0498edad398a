-- Numbers and their bytes determine each other, at every width.
use mathlib.Core.Path.{◌≡◌, refl, ap}
use mathlib.Core.List.{List, [], ◌∷◌}
use Prim.Native.Nat.{ℕ, zero, suc, ◌+◌, ◌*◌, ◌/◌, ◌%◌, ◌^◌, ◌<◌}
use native.Mathlib.Nat.{mul_assoc, pow-zero, pow-succ'}
use native.Mathlib.Omega.{arith}
use lib.ListN.{length}
use Rattle.log_codec.specs.Numbers.{bytes_of, number_of}
use Rattle.log_codec.specs.Fields.{AreBytes}

pub length-bytes_of : (w x : ℕ) → length (bytes_of w x) ≡ w
length-bytes_of zero x = refl
length-bytes_of (suc w) x = ap suc (length-bytes_of w (x / 256))

pub number-bytes : (w x : ℕ) → x < 256 ^ w → number_of (bytes_of w x) ≡ x
number-bytes zero x h = omega (arith, pow-zero 256)
number-bytes (suc w) x h = rw (number-bytes w (x / 256) (omega (arith, pow-succ' 256 w))) (omega arith)

-- higher bytes do not matter
pub low-bytes : (w x k : ℕ) → bytes_of w (x + 256 ^ w * k) ≡ bytes_of w x
low-bytes zero x k = refl
low-bytes (suc w) x k =
    let m = 256 ^ w * k in
    let e : 256 ^ suc w * k ≡ 256 * m = rw (pow-succ' 256 w) (mul_assoc 256 (256 ^ w) k) in
    let low : (x + 256 * m) % 256 ≡ x % 256 = omega arith in
    let high : (x + 256 * m) / 256 ≡ x / 256 + m = omega arith in
    rw (e, low, high) (ap (λ (t : List ℕ). x % 256 ∷ t) (low-bytes w (x / 256) k))

pub bytes-number : (l : List ℕ) → AreBytes l → bytes_of (length l) (number_of l) ≡ l
bytes-number [] h = refl
bytes-number (b ∷ l) h =
    let low : (b + 256 * number_of l) % 256 ≡ b = omega arith in
    let high : (b + 256 * number_of l) / 256 ≡ number_of l = omega arith in
    rw (low, high) (ap (λ (t : List ℕ). b ∷ t) (bytes-number l h.1))
