-- 22: worked values as one table under one claim.
use Rattle.std.specs.Prelude.{◌≡◌, ℕ, List, [], ◌∷◌, refl}
use Rattle.laws.specs.Every.{Every}
use Rattle.hash.specs.OneAtATime.{absorb, absorb_all, finish, flow_of, one_at_a_time}

-- what an example says
pub data Example : Type 0 where
  hash-is : (key : List ℕ) → ℕ → Example
  -- the hash, and the flows with salts 0, 5 and 2^32 - 1
  flows-are : (key : List ℕ) → (hash first second third : ℕ) → Example

abbrev pub Holds : Example → Type 0
Holds (hash-is key h) = one_at_a_time key ≡ h
Holds (flows-are key h first second third) =
    (one_at_a_time key ≡ h) × (flow_of key 0 ≡ first) × (flow_of key 5 ≡ second) × (flow_of key 4294967295 ≡ third)

-- 12 bytes 0 and one byte n
abbrev pub key_of : (n : ℕ) → List ℕ
key_of n = 0 ∷ 0 ∷ 0 ∷ 0 ∷ 0 ∷ 0 ∷ 0 ∷ 0 ∷ 0 ∷ 0 ∷ 0 ∷ 0 ∷ n ∷ []

-- 10.0.0.1 to 10.0.0.2, ports 5000 and 80, protocol 17, each high byte first
abbrev pub voice : List ℕ
voice = 10 ∷ 0 ∷ 0 ∷ 1 ∷ 10 ∷ 0 ∷ 0 ∷ 2 ∷ 19 ∷ 136 ∷ 0 ∷ 80 ∷ 17 ∷ []

abbrev pub examples : List Example
examples =
    hash-is (97 ∷ []) 0xca2e9442  -- the one byte `a`, a published value
    ∷ flows-are (key_of 0) 0 0 5 63
    ∷ flows-are (key_of 1) 307143837 29 34 28
    ∷ flows-are (key_of 2) 614320443 59 0 58
    ∷ flows-are voice 3856468369 17 22 16
    ∷ []

pub examples-hold : Every Holds examples
unfolding absorb absorb_all finish flow_of one_at_a_time
examples-hold = (refl, ((refl, refl, refl, refl), ((refl, refl, refl, refl), ((refl, refl, refl, refl), ((refl, refl, refl, refl), tt)))))
