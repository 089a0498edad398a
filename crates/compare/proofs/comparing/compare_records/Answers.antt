-- `compare_records`: each turn compares one record of each log.
use mathlib.Core.Path.{◌≡◌, ap, sym, ◌∙◌}
use Prim.Native.Nat.{ℕ, ◌+◌, ◌*◌, ◌-◌}
use Rattle.compare.specs.Compare.{equal, first_ends}
use native.Mathlib.Omega.{arith}
use Rattle.compare.proofs.InTurn.{both_end, first_ends_lem, second-ends, turn-differs, turn-same}
use Rattle.compare.proofs.Same.{record-same}
use Rattle.compare.proofs.comparing.compare_records.Goals as goal

pub returns-then-others-number : goal.returns-then-others-number
returns-then-others-number c =
    let l = c.loop-number in
    let a = c.args in
    sym (l.invariant.1 ∙ second-ends a.first.now a.second.now a.count a.others l.number (a.offset + 40 * l.number) (omega arith) (omega arith))

pub returns-then-not-equal : goal.returns-then-not-equal
returns-then-not-equal c =
    let l = c.loop-number in
    let a = c.args in
    sym (l.invariant.1 ∙ turn-differs a.first.now a.second.now a.count a.others l.number (a.offset + 40 * l.number) (omega arith) (omega arith)
    c.get.ensures
    c.get-in-loop-number.ensures
    (c.eq-equal.ensures ∙ record-same c.get.result c.get-in-loop-number.result)
    c.if-not-equal.true)

pub loop-number-preserved : goal.loop-number-preserved
loop-number-preserved c =
    let l = c.loop-number in
    let a = c.args in
    let next : a.offset + 40 * l.number + 40 ≡ a.offset + 40 * (l.number + 1) = omega arith in (
      omega arith,
      rw next at (l.invariant.1 ∙ turn-same a.first.now a.second.now a.count a.others l.number (a.offset + 40 * l.number) (omega arith) (omega arith)
          c.get.ensures
          c.get-in-loop-number.ensures
          (c.eq-equal.ensures ∙ record-same c.get.result c.get-in-loop-number.result)
          c.if-not-equal.false),
    )

pub returns-then-count-others : goal.returns-then-count-others
returns-then-count-others c =
    let l = c.loop-number in
    let a = c.args in
    let e : l.number ≡ a.count = omega arith in
    ap (λ (n : ℕ). first_ends n (a.others - n)) (sym e)
    ∙ sym (l.invariant.1 ∙ first_ends_lem a.first.now a.second.now a.count a.others l.number (a.offset + 40 * l.number) (omega arith) (omega arith))

pub returns : goal.returns
returns c =
    let l = c.loop-number in
    let a = c.args in
    let e : l.number ≡ a.count = omega arith in
    ap equal (sym e) ∙ sym (l.invariant.1 ∙ both_end a.first.now a.second.now a.count a.others l.number (a.offset + 40 * l.number) (omega arith) (omega arith))
