-- The forms of a command: a kind of queue has a table of them.
use Rattle.std.specs.Prelude.{Bool, true, cond, ◌&&◌, ℕ, ◌-◌, ◌^◌, leb, eqb, length}
use mathlib.Core.List.{List, [], ◌∷◌, foldl}

-- the largest 32-bit and 64-bit numbers
abbrev pub word : ℕ
word = 2 ^ 32 - 1

abbrev pub double_word : ℕ
double_word = 2 ^ 64 - 1

pub record Form (Command : Type 0) : Type 0 where
  -- the first word's one byte
  pub letter : ℕ
  -- the largest number that each field may be
  pub most : List ℕ
  -- the command that the fields make
  pub make : List ℕ → Command

-- which numbers are small enough
abbrev pub small_enough : (most numbers : List ℕ) → List Bool
small_enough [] numbers = []
small_enough (m ∷ most) [] = []
small_enough (m ∷ most) (n ∷ numbers) = leb n m ∷ small_enough most numbers

-- as many numbers as the form has fields, each small enough
abbrev pub fits : (most numbers : List ℕ) → Bool
fits most numbers = eqb (length numbers) (length most) && foldl ◌&&◌ true (small_enough most numbers)

abbrev pub formed : {Command : Type 0} → (bad : Command) → List (Form Command) → (letter : ℕ) (numbers : List ℕ) → Command
formed bad [] letter numbers = bad
formed bad (form ∷ rest) letter numbers =
    cond (eqb letter form.letter) (cond (fits form.most numbers) (form.make numbers) bad)
    (formed bad rest letter numbers)

-- ── tables that the reader serves: each form has one to seven fields, of 64 bits at most ──

abbrev pub within_double_words : (most : List ℕ) → Bool
within_double_words [] = true
within_double_words (m ∷ most) = leb m double_word && within_double_words most

abbrev pub readable_fields : (most : List ℕ) → Bool
readable_fields most = leb 1 (length most) && leb (length most) 7 && within_double_words most

abbrev pub readable : {Command : Type 0} → List (Form Command) → Bool
readable [] = true
readable (form ∷ rest) = readable_fields form.most && readable rest
