-- What a byte's tests say of it.
use mathlib.Core.Path.{◌≡◌}
use mathlib.Core.Bool.{true, false, ◌&&◌}
use Prim.Native.Nat.{ℕ, ◌<◌, ◌≤◌}
use native.Mathlib.Omega.{arith}
use borrow.Author.Tests.{leb-true, ltb-true, ne_eqb}
use lib.Dec.{eqb, leb, ltb}
use Rattle.laws.proofs.Tests.{and_left, and_right}
use Rattle.lines.specs.Numbers.{is_digit}

pub digit_low : (byte : ℕ) → is_digit byte ≡ true → 48 ≤ byte
digit_low byte e = leb-true 48 byte (and_left (leb 48 byte) (leb byte 57) e)

pub digit-no-space : (byte : ℕ) → is_digit byte ≡ true → eqb byte 32 ≡ false
digit-no-space byte e = let h = digit_low byte e in ne_eqb byte 32 (omega arith)

-- a digit on a number that is clear of 64 bits
pub record ClearDigit (byte value : ℕ) : Type 0 where
  pub digit : is_digit byte ≡ true
  pub low : 48 ≤ byte
  pub high : byte ≤ 57
  pub small : value < 1844674407370955161

pub clear-digit : (byte value : ℕ) → is_digit byte && ltb value 1844674407370955161 ≡ true → ClearDigit byte value
clear-digit byte value e =
    let d = and_left (is_digit byte) (ltb value 1844674407370955161) e in
    record {
      digit = d;
      low = digit_low byte d;
      high = leb-true byte 57 (and_right (leb 48 byte) (leb byte 57) d);
      small = ltb-true value 1844674407370955161 (and_right (is_digit byte) (ltb value 1844674407370955161) e);
    }
