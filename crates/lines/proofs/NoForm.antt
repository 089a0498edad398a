-- Numbers that no form takes: none, too many of them, or one that is past 64 bits.
use mathlib.Core.Path.{◌≡◌, refl}
use mathlib.Core.Bool.{Bool, true, false, cond, ◌&&◌, and-false}
use mathlib.Core.List.{List, [], ◌∷◌, ◌++◌, foldl}
use Prim.Native.Nat.{ℕ, ◌≤◌, ◌<◌}
use native.Mathlib.Omega.{arith}
use borrow.Author.Tests.{eqb-true, leb-true, lt-leb, ne_eqb}
use lib.Dec.{eqb, leb}
use lib.ListN.{length}
use Rattle.laws.proofs.Choice.{either}
use Rattle.laws.proofs.Tests.{and_left, and_right}
use Rattle.lines.specs.Forms.{Form, double_word, fits, formed, readable, readable_fields, small_enough, within_double_words}

pub both-same : {A : Type 0} → (t : Bool) (x y a : A) → x ≡ a → y ≡ a → cond t x y ≡ a
both-same t x y a p q = either (λ c. c ≡ a) t x y p q

-- what a kind of queue makes no command of
pub record Rejects {Command : Type 0} (bad : Command) (make : ℕ → List ℕ → Command) : Type 0 where
  pub few : (letter : ℕ) → make letter [] ≡ bad
  pub many : (letter : ℕ) (numbers : List ℕ) → 7 < length numbers → make letter numbers ≡ bad
  pub large : (letter : ℕ) (before after : List ℕ) (n : ℕ) → double_word < n → make letter (before ++ (n ∷ after)) ≡ bad

-- ── the rows of a table ──

abbrev Bounded : List ℕ → Type 0
Bounded [] = Unit {0}
Bounded (m ∷ most) = (m ≤ double_word) × Bounded most

bounded : (most : List ℕ) → within_double_words most ≡ true → Bounded most
bounded [] e = tt
bounded (m ∷ most) e =
    let one = leb m double_word in
    let rest = within_double_words most in
    (leb-true m double_word (and_left one rest e), bounded most (and_right one rest e))

record Row (most : List ℕ) : Type 0 where
  some : 1 ≤ length most
  few : length most ≤ 7
  within : Bounded most

row : (most : List ℕ) → readable_fields most ≡ true → Row most
row most e =
    let some = leb 1 (length most) in
    let few = leb (length most) 7 in
    let both = and_left (some && few) (within_double_words most) e in
    record {
      some = leb-true 1 (length most) (and_left some few both);
      few = leb-true (length most) 7 (and_right some few both);
      within = bounded most (and_right (some && few) (within_double_words most) e);
    }

-- numbers that no row takes make no command
none-formed : {Command : Type 0} → (bad : Command) (fs : List (Form Command)) (letter : ℕ) (numbers : List ℕ) → readable fs ≡ true → ((most : List ℕ) → Row most → fits most numbers ≡ false) → formed bad fs letter numbers ≡ bad
none-formed bad [] letter numbers e n = refl
none-formed bad (f ∷ fs) letter numbers e n =
    let first = readable_fields f.most in
    let unfit = n f.most (row f.most (and_left first (readable fs) e)) in
    both-same (eqb letter f.letter) _ _ bad (rw unfit) (none-formed bad fs letter numbers (and_right first (readable fs) e) n)

-- ── past 64 bits ──

all-false : (tests : List Bool) → foldl ◌&&◌ false tests ≡ false
all-false [] = refl
all-false (t ∷ tests) = all-false tests

-- a number past all bounds fails its test, wherever it stands
large : (t : Bool) (most before after : List ℕ) (n : ℕ) → Bounded most → double_word < n → length (before ++ (n ∷ after)) ≡ length most → foldl ◌&&◌ t (small_enough most (before ++ (n ∷ after))) ≡ false
large t [] [] after n b h e = absurd (omega arith)
large t [] (x ∷ before) after n b h e = absurd (omega arith)
large t (m ∷ most) [] after n b h e = rw (lt-leb n m (omega arith), and-false t) (all-false (small_enough most after))
large t (m ∷ most) (x ∷ before) after n b h e = large (t && leb x m) most before after n b.1 h (omega arith)

large-fits : (most before after : List ℕ) (n : ℕ) → Bounded most → double_word < n → fits most (before ++ (n ∷ after)) ≡ false
large-fits most before after n b h = go (eqb (length (before ++ (n ∷ after))) (length most)) refl
  where
    go : (t : Bool) → eqb (length (before ++ (n ∷ after))) (length most) ≡ t → t && foldl ◌&&◌ true (small_enough most (before ++ (n ∷ after))) ≡ false
    go true e = large true most before after n b h (eqb-true _ _ e)
    go false e = refl

-- ── a table's commands ──

pub rejects : {Command : Type 0} → (bad : Command) (fs : List (Form Command)) → readable fs ≡ true → Rejects bad (formed bad fs)
rejects bad fs e =
    record {
      few = λ letter. none-formed bad fs letter [] e (λ most r. rw (ne_eqb 0 (length most) (omega (arith, r.some))));
      many = λ letter numbers h. none-formed bad fs letter numbers e (λ most r. rw (ne_eqb (length numbers) (length most) (omega (arith, r.few, h))));
      large = λ letter before after n h. none-formed bad fs letter (before ++ (n ∷ after)) e (λ most r. large-fits most before after n r.within h);
    }
