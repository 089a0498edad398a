-- A line that is read as a `c` has at most 4,096 slots.
use mathlib.Core.Path.{◌≡◌}
use mathlib.Core.Bool.{true, cond, ◌&&◌}
use mathlib.Core.List.{List, [], ◌∷◌, map}
use Rattle.std.proofs.Common.{Option, None, Some}
use Prim.Native.Nat.{ℕ, ◌≤◌}
use native.Mathlib.Omega.{arith}
use borrow.Author.Tests.{leb-true}
use lib.Dec.{eqb, leb}
use lib.ListN.{get_or, length}
use Rattle.laws.specs.Every.{Every}
use Rattle.laws.proofs.Choice.{either, at-cond}
use Rattle.laws.proofs.Tests.{and_right}
use Rattle.lines.specs.Forms.{Form, fits, formed, word}
use Rattle.lines.specs.Line.{are_numbers, words_read}
use Rattle.script_command.specs.Forms.{command_of, forms}
use Rattle.script_command.specs.Line.{read_line}
use Rattle.lines.specs.Numbers.{value_of}
use Rattle.lines.specs.Words.{words_of}
use Rattle.script_command.specs.declared.Command.{Command}
use Rattle.script_command.specs.declared.Command.TheVariants.{Configure, Arrival, Departure, Tick}

abbrev pub FewSlots : Option Command → Type 0
FewSlots None = Unit {0}
FewSlots (Some (Configure target buffer slots)) = slots ≤ 4096
FewSlots (Some (Arrival clock handle size ecn u)) = Unit {0}
FewSlots (Some (Departure clock)) = Unit {0}
FewSlots (Some (Tick clock)) = Unit {0}

third-fits : (numbers : List ℕ) → fits (word ∷ word ∷ 4096 ∷ []) numbers ≡ true → get_or numbers 2 0 ≤ 4096
third-fits [] e = omega arith
third-fits (a ∷ []) e = omega arith
third-fits (a ∷ b ∷ []) e = omega arith
third-fits (a ∷ b ∷ c ∷ rest) e =
    let tests = leb a word && leb b word && leb c 4096 in
    leb-true c 4096 (and_right (leb a word && leb b word) (leb c 4096) (and_right (eqb (length (a ∷ b ∷ c ∷ rest)) 3) tests e))

-- what fits a form
abbrev Few : Form (Option Command) → Type 0
Few form = (numbers : List ℕ) → fits form.most numbers ≡ true → FewSlots (form.make numbers)

forms-few : (fs : List (Form (Option Command))) → Every Few fs → (letter : ℕ) (numbers : List ℕ) → FewSlots (formed None fs letter numbers)
forms-few [] all letter numbers = tt
forms-few (form ∷ rest) all letter numbers =
    either FewSlots (eqb letter form.letter) (cond (fits form.most numbers) (form.make numbers) None) (formed None rest letter numbers)
    (at-cond FewSlots (fits form.most numbers) {a = form.make numbers} {b = None} (all.0 numbers) (λ e. tt))
    (forms-few rest all.1 letter numbers)

form-few : (letter : ℕ) (numbers : List ℕ) → FewSlots (command_of letter numbers)
unfolding command_of
form-few letter numbers = forms-few forms (third-fits, (λ n e. tt, (λ n e. tt, (λ n e. tt, tt)))) letter numbers

words-few : (first : List ℕ) (fields : List (List ℕ)) → FewSlots (words_read None command_of first fields)
words-few [] fields = tt
words-few (letter ∷ []) fields =
    either FewSlots (are_numbers fields) (command_of letter (map value_of fields)) None (form-few letter (map value_of fields)) tt
words-few (letter ∷ more ∷ rest) fields = tt

pub line-few : (line : List ℕ) → FewSlots (read_line line)
unfolding read_line
line-few line = words-few (words_of line).0 (words_of line).1
