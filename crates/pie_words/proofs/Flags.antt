-- What a flag's word says once it is written.
use mathlib.Core.Path.{◌≡◌, refl}
use mathlib.Core.Bool.{Bool, true, false, cond, not}
use Prim.Native.Nat.{ℕ}
use native.Mathlib.Omega.{arith}
use lib.Dec.{eqb}
use borrow.Author.Tests.{eqb-true}
use Rattle.pie_words.specs.Flags.{flag_word, is_set}

-- a word that says what it said is left as it is
pub flag-kept : (word : ℕ) → flag_word word (is_set word) ≡ word
flag-kept word = go (eqb word 0) refl
  where
    go : (b : Bool) → eqb word 0 ≡ b → cond (not b) (cond (not b) word 0) (cond (not b) 1 0) ≡ word
    go true e = omega (arith, eqb-true word 0 e)
    go false e = refl

pub flag_off : (word : ℕ) → flag_word word false ≡ 0
flag_off word = go (is_set word)
  where
    go : (b : Bool) → ◌≡◌ {A = ℕ} (cond b 0 0) 0
    go true = refl
    go false = refl

-- the word of a flag says what was written
pub flag-says : (word : ℕ) (said : Bool) → is_set (flag_word word said) ≡ said
flag-says word said = go (eqb word 0) refl said
  where
    go : (b : Bool) → eqb word 0 ≡ b → (said : Bool) → is_set (cond (not b) (cond said word 0) (cond said 1 0)) ≡ said
    go true e true = refl
    go true e false = refl
    go false e true = rw e
    go false e false = refl
