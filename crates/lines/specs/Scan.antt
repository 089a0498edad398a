-- Reading on to the end of a line.
use Rattle.std.specs.Prelude.{◌≡◌, cond, List, [], ◌∷◌, ℕ, suc, ◌+◌, ◌≤◌, eqb, drop, length}
use Rattle.lines.specs.Reader.{pushed}
use Rattle.lines.specs.declared.Reader.{Reader}
use Rattle.lines.specs.declared.Scanned.{Scanned}

-- the bytes before the first newline, or all
unfoldable pub line_end : List ℕ → ℕ
line_end [] = 0
line_end (byte ∷ rest) = cond (eqb byte 10) 0 (suc (line_end rest))

-- the reader that has read them
unfoldable pub read_on : Reader → List ℕ → Reader
read_on r [] = r
read_on r (byte ∷ rest) = cond (eqb byte 10) r (read_on (pushed r byte) rest)

-- s has come further in the same line than the reader r at `from`
pub record Along (input : List ℕ) (r : Reader) (from : ℕ) (s : Scanned) : Type 0 where
  pub forward : from ≤ s.at
  pub within : s.at ≤ length input
  pub ends : from + line_end (drop from input) ≡ s.at + line_end (drop s.at input)
  pub reads : read_on r (drop from input) ≡ read_on s.reader (drop s.at input)
