-- `put_note` meets its contract.
use mathlib.Core.Path.{refl, ap, ◌∙◌}
use mathlib.Core.List.{List}
use Prim.Native.Nat.{ℕ, ◌+◌}
use lib.ListN.{get_or, set, take}
use lib.Seq.{sets, take_all}
use native.Mathlib.Omega.{arith}
use Rattle.call_log.proofs.Stores.{as_long, one_more}
use Rattle.call_log.proofs.writing.put_note.Goals as goal

pub loop-i-init : goal.loop-i-init
loop-i-init c = (omega arith, refl)

pub bounds-bytes-i : goal.bounds-bytes-i
bounds-bytes-i c =
    let k = c.loop-i in
    let s = c.args in
    omega (arith, as_long s.bytes.now 32 (take k.i s.note.now) k.invariant.1)

pub loop-i-preserved : goal.loop-i-preserved
loop-i-preserved c =
    let k = c.loop-i in
    let s = c.args in
    (omega arith, ap (λ (t : List ℕ). set t (32 + k.i) (get_or s.note.now k.i 0)) k.invariant.1 ∙ one_more s.bytes.now s.note.now 32 k.i (omega arith))

pub shape_of-bytes : goal.shape_of-bytes
shape_of-bytes c =
    let k = c.loop-i in
    let s = c.args in
    as_long s.bytes.now 32 (take k.i s.note.now) k.invariant.1

pub returns : goal.returns
returns c =
    let s = c.args in
    c.loop-i.invariant.1 ∙ ap (λ (t : List ℕ). sets s.bytes.now 32 t) (take_all c.loop-i.i s.note.now (omega arith))
