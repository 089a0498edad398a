-- What each comparison leaves for C.
use mathlib.Core.Path.{◌≡◌, ap, sym, ◌∙◌}
use mathlib.Core.List.{List}
use Prim.Native.Nat.{ℕ, ◌+◌}
use Rattle.compare.specs.Compare.{Comparison}
use Rattle.compare.specs.Values.{comparison_of}
use Rattle.compare.specs.declared.Compared.{Compared}
use Rattle.compare.specs.Codes.{code_of, words_of}

-- the code and the words of a value are those of the comparison that it stands for
pub compares : (first second : List ℕ) {found v : Compared} {a : Comparison} → comparison_of found ≡ a → found ≡ v →
    (code_of (comparison_of v) ≡ code_of a) × (words_of first second (comparison_of v) ≡ words_of first second a)
compares first second e f =
    let g = ap comparison_of (sym f) ∙ e in (ap code_of g, ap (words_of first second) g)

-- of a refused log the number is given
pub refused-number : (first second : List ℕ) {found v : Compared} {a : Comparison} {n m : ℕ} → comparison_of found ≡ a → found ≡ v →
    code_of (comparison_of v) ≡ 100 + m → n ≡ m →
    (100 + n ≡ code_of a) × (words_of first second (comparison_of v) ≡ words_of first second a)
refused-number first second e f g h =
    let c = compares first second e f in (ap (λ k. 100 + k) h ∙ sym g ∙ c.0, c.1)

-- of a longer log the place of its last records
pub longer-place : (first second : List ℕ) {found v : Compared} {a : Comparison} {n : ℕ} {w : List ℕ} → comparison_of found ≡ a → found ≡ v →
    w ≡ words_of first second (comparison_of v) → code_of (comparison_of v) ≡ n → (n ≡ code_of a) × (w ≡ words_of first second a)
longer-place first second e f g h =
    let c = compares first second e f in (sym h ∙ c.0, g ∙ c.1)
