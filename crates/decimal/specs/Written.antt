-- What it means that a function wrote text into a lent buffer.
use Rattle.std.specs.Prelude.{◌≡◌, List, ◌++◌, ℕ, ◌+◌, ◌≤◌, length, take}
use Rattle.decimal.specs.declared.Output.{Output}

-- the buffer has room for so many bytes more
abbrev pub HasRoom : Output → (bytes : ℕ) → Type 0
HasRoom out bytes = out.end + bytes ≤ length out.bytes.now

-- the text, of at most so many bytes, stands in the buffer behind what was written before, which still stands
pub record Wrote (most : ℕ) (before after : Output) (text : List ℕ) : Type 0 where
  pub buffer : after.bytes.ghost_name ≡ before.bytes.ghost_name
  pub room : length after.bytes.now ≡ length before.bytes.now
  pub count : after.end ≡ before.end + length text
  pub bytes : take after.end after.bytes.now ≡ take before.end before.bytes.now ++ text
  pub short : length text ≤ most
