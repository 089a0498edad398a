-- Text that was written behind text.
use mathlib.Core.List.{List, ◌++◌, append_assoc}
use mathlib.Core.Path.{◌∙◌}
use Prim.Native.Nat.{ℕ, ◌+◌, ◌≤◌}
use native.Mathlib.Omega.{arith}
use lib.ListN.{length-append}
use Rattle.decimal.specs.Written.{Wrote}
use Rattle.decimal.specs.declared.Output.{Output}

pub then : {k m : ℕ} {x y z : Output} {s t : List ℕ} (n : ℕ) → Wrote k x y s → Wrote m y z t → k + m ≤ n → Wrote n x z (s ++ t)
then n u v h =
    record {
      buffer = v.buffer ∙ u.buffer;
      room = v.room ∙ u.room;
      count = simp length-append (omega (arith, u.count, v.count));
      bytes = rw (v.bytes, u.bytes, append_assoc);
      short = simp length-append (omega (arith, u.short, v.short));
    }

-- the same with a larger bound
pub within : {k : ℕ} {x y : Output} {s : List ℕ} (n : ℕ) → Wrote k x y s → k ≤ n → Wrote n x y s
within n u h = record { buffer = u.buffer; room = u.room; count = u.count; bytes = u.bytes; short = omega (arith, u.short) }
