-- `write_arrived`: the other words are those of the new values too.
use mathlib.Core.Path.{ap, ◌∙◌}
use Prim.Native.Nat.{◌+◌}
use native.Mathlib.Omega.{arith}
use lib.ListN.{get_or, set}
use mathlib.Core.List.{List}
use Prim.Native.Nat.{ℕ}
use Rattle.fq_steps.proofs.Stays.{arrived-count, arrived-in, arrived-words}
use Rattle.fq_steps.proofs.writing.write_arrived.Goals as goal

pub overflow_add-w : goal.overflow_add-w
overflow_add-w c =
    let a = c.args in
    let high = arrived-count a.w.now a.c a.l a.v c.place-at.result c.place-at.ensures.0 in
    let read = ap (λ (x : List ℕ). get_or x (11 + c.place-at.result) 0) (arrived-in a.w.now a.c a.l c.told-w) in
    omega (arith, read, high, c.requires.settings_value.3)

pub returns : goal.returns
returns c =
    let a = c.args in
    let k = c.requires.settings_value in
    let l = c.requires.first_value in
    let at = c.place-at.result in
    ap (λ (x : List ℕ). set x (11 + at) (get_or x (11 + at) 0 + 1)) (arrived-in a.w.now a.c a.l c.told-w)
    ∙ arrived-words a.w.now a.c a.l a.v at c.place-at.ensures.0 k.0 k.1 k.2 l.0 l.1
