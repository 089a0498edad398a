-- 22: the Jenkins one-at-a-time hash, on 32-bit numbers: sums wrap and a shift to the left drops the high bits.
use Rattle.std.specs.Prelude.{ℕ, ◌+◌, ◌*◌, ◌/◌, ◌%◌, ◌^◌, List, [], ◌∷◌, bit_xor}

-- the sum of two numbers, modulo 2^32
abbrev pub plus : ℕ → ℕ → ℕ
plus a b = (a + b) % 2 ^ 32

abbrev pub left : (n by : ℕ) → ℕ
left n by = (n * 2 ^ by) % 2 ^ 32

abbrev pub right : (n by : ℕ) → ℕ
right n by = n / 2 ^ by

-- 22: h += byte; h += h << 10; h ^= h >> 6
unfoldable pub absorb : (h byte : ℕ) → ℕ
absorb h byte = let a = plus h byte in let b = plus a (left a 10) in bit_xor b (right b 6)

-- 22: h += h << 3; h ^= h >> 11; h += h << 15
unfoldable pub finish : (h : ℕ) → ℕ
finish h = let a = plus h (left h 3) in let b = bit_xor a (right a 11) in plus b (left b 15)

-- 22: each byte in order
unfoldable pub absorb_all : (h : ℕ) (key : List ℕ) → ℕ
absorb_all h [] = h
absorb_all h (byte ∷ key) = absorb_all (absorb h byte) key

-- 22: from h = 0
unfoldable pub one_at_a_time : (key : List ℕ) → ℕ
one_at_a_time key = finish (absorb_all 0 key)

-- 22: the flow of a key: hash plus salt, wrapping, modulo 64
unfoldable pub flow_of : (key : List ℕ) (salt : ℕ) → ℕ
flow_of key salt = plus (one_at_a_time key) salt % 64
