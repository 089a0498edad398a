-- `write_left`: the other words are those of the new values too.
use mathlib.Core.Path.{◌≡◌, ap, ◌∙◌}
use mathlib.Core.List.{List}
use Prim.Native.Nat.{ℕ}
use lib.ListN.{set}
use Rattle.schedule.specs.declared.Lists.{Lists}
use Rattle.fq_state.specs.declared.Common.{Common}
use Rattle.fq_words.specs.Words.{common_of}
use Rattle.fq_words.specs.Written.{common_words}
use Rattle.fq_steps.proofs.Stays.{nineteen, placed}
use Rattle.fq_steps.proofs.writing.write_left.Goals as goal

abbrev left_in : (w : List ℕ) → Common → Lists → List ℕ
left_in w c l =
    set
    (set (set (set (set (set (set (set w 4 c.clock.0) 6 c.backlog.count) 7 c.backlog.bytes.0) 9 c.store.freed) 10 c.store.spare) 16 l.first)
    17 l.old)
    18 l.listed

pub returns : goal.returns
unfolding common_of common_words
returns c =
    let a = c.args in
    let k = c.requires in
    let others : left_in (placed a.w.now) a.c a.l ≡ common_words a.c a.l = rw (k.0, k.1, k.2, k.3) in
    ap (λ (x : List ℕ). left_in x a.c a.l) (nineteen a.w.now c.told-w) ∙ others
