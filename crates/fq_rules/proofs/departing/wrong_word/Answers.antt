-- `wrong_word`: a flow without a packet has no bytes, so no size fits it.
use borrow.Author.Tests.{lt-ltb}
use mathlib.Core.Path.{◌≡◌, refl}
use mathlib.Core.Bool.{true, or-true}
use mathlib.Core.Logic.{◌≢◌}
use Prim.Native.Nat.{ℕ, zero, suc, ◌*◌, ◌≤◌}
use native.Mathlib.Omega.{arith}
use Rattle.pie.specs.Constants.{largest}
use Rattle.pie.specs.declared.Backlog.{Backlog}
use Rattle.refusals.specs.Tests.{head_refused}
use Rattle.fq_rules.proofs.departing.wrong_word.Goals as goal

nothing-fits : (b : Backlog) (size : ℕ) → b.count ≡ 0 → b.bytes.0 ≤ largest * b.count → head_refused b size ≡ true
unfolding head_refused
nothing-fits b zero e h = refl
nothing-fits b (suc n) e h = rw (lt-ltb b.bytes.0 (suc n) (omega arith), or-true)

pub returns-then-none : goal.returns-then-none
returns-then-none c =
    rw (nothing-fits _ _ (c.if-none.true) c.requires.3)

pub wrong_head-wrong-requires : goal.wrong_head-wrong-requires
wrong_head-wrong-requires c =
    let n : c.args.f.count ≢ 0 = c.if-none.false in
    rw c.backlog.ensures (omega arith, c.requires.2)

pub returns-then-wrong : goal.returns-then-wrong
returns-then-wrong c =
    rw (← c.size_at.ensures, ← c.backlog.ensures, ← c.wrong_head-wrong.ensures, c.if-wrong.true)

pub returns : goal.returns
returns c =
    rw (← c.size_at.ensures, ← c.backlog.ensures, ← c.wrong_head-wrong.ensures, c.if-wrong.false, c.leads_nowhere.ensures)
