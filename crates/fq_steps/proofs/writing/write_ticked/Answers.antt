-- `write_ticked`: the other words are those of the new values too.
use mathlib.Core.Path.{◌≡◌, ap, ◌∙◌}
use mathlib.Core.List.{List}
use Prim.Native.Nat.{ℕ}
use lib.ListN.{set}
use Rattle.fq_words.specs.Words.{common_of, lists_of}
use Rattle.fq_words.specs.Written.{common_words}
use Rattle.fq_steps.proofs.Stays.{nineteen, placed}
use Rattle.fq_steps.proofs.writing.write_ticked.Goals as goal

pub returns : goal.returns
unfolding common_of common_words lists_of
returns c =
    let a = c.args in
    let k = c.requires in
    let others : set (set (placed a.w.now) 4 a.c.clock.0) 5 a.c.last.0 ≡ common_words a.c (lists_of a.w.now) = rw (k.0, k.1, k.2, k.3) in
    ap (λ (x : List ℕ). set (set x 4 a.c.clock.0) 5 a.c.last.0) (nineteen a.w.now c.told-w) ∙ others
