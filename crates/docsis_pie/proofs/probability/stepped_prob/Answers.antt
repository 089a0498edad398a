-- `probability::stepped_prob`: the rules one after the other, each call's result read back as it is.
use borrow.Author.Rules.{sfits_of}
use mathlib.Core.Path.{◌≡◌, refl, ◌∙◌}
use mathlib.Core.Bool.{true}
use Prim.Native.Nat.{ℕ, ◌*◌, ◌≤◌, ◌^◌}
use native.Mathlib.Omega.{arith}
use lib.IntN.{ℤ, pos, nat_abs, ◌+ℤ◌}
use mir.Syntax.{w64}
use mir.Val.{to_z}
use mir.Facts.{to_z-of_z}
use Rattle.units.specs.Kinds.{prob}
use Rattle.units.specs.declared.Prob.{Prob}
use Rattle.pie.specs.Update.{capped as calm_capped, error_of}
use Rattle.pie.proofs.Ints.{abs-add, as-pos, back, read, small}
use Rattle.pie.proofs.Sizes.{error-small, quotient-small}
use Rattle.docsis_pie.specs.Probability.{adjusted, capped, divisor_of, limited, step_of, stepped_prob}
use Rattle.docsis_pie.proofs.Sizes.{capped_small}
use Rattle.docsis_pie.proofs.probability.stepped_prob.Goals as goal
use Rattle.docsis_pie.proofs.probability.stepped_prob.Lts
use Rattle.docsis_pie.proofs.probability.stepped_prob.Reads
use Rattle.docsis_pie.proofs.probability.stepped_prob.Tie

abbrev After-error : Type 0
After-error = Lts.After-error Tie.the-claims Reads.Pre Reads.Post

abbrev After-cap_step-s : Type 0
After-cap_step-s = Lts.After-cap_step Tie.the-claims Reads.Pre Reads.Post

rules_lem : (p d o t : ℕ) (x s z q : ℤ) (r : Prob) → x ≡ error_of d o t → s ≡ step_of x (divisor_of p) → z ≡ capped p s →
    q ≡ adjusted d o (pos p +ℤ z) → r ≡ prob (limited q) → r ≡ prob (stepped_prob p d o t)
unfolding stepped_prob
rules_lem p d o t x s z q r a b c e f = cc

-- rule 6 is the calm profile's
calm-cap : (p : ℕ) (s : ℤ) → calm_capped true p s ≡ capped p s
unfolding calm_capped capped
calm-cap p s = refl

x-small : (c : After-error) → nat_abs c.error.result ≤ 300000000
x-small c =
    let a = c.before.args in
    rw c.error.ensures
    (error-small a.delay.0 a.old.0 a.target.0 (omega arith) (omega arith) (omega arith))

module _ (c : After-cap_step-s) where
  abbrev p : ℕ
  p = c.before.before.before.args.p.0

  x-back : read c.before.before.error.result ≡ c.before.before.error.result
  x-back = back _ (omega (arith, x-small c.before.before))

  s-small : nat_abs c.before.«table_step».result ≤ 2 ^ 60
  unfolding step_of
  s-small =
      rw (c.before.«table_step».ensures, x-back)
      (omega (
        arith,
        quotient-small 536870912 c.before.before.error.result (15625 * divisor_of p),
        x-small c.before.before,
      ))

  s-back : read c.before.«table_step».result ≡ c.before.«table_step».result
  s-back = back _ (omega (arith, s-small))

  z-is : c.cap_step-s.result ≡ capped p c.before.«table_step».result
  z-is = rw (s-back) at c.cap_step-s.ensures ∙ calm-cap p c.before.«table_step».result

  z-small : nat_abs c.cap_step-s.result ≤ 2 ^ 60
  z-small = rw z-is (capped_small p (2 ^ 60) c.before.«table_step».result (omega arith) s-small)

  z-back : read c.cap_step-s.result ≡ c.cap_step-s.result
  z-back = back _ (omega (arith, z-small))

  p_back : to_z w64 p ≡ pos p
  p_back = as-pos (omega arith)

  q-small : nat_abs (pos p +ℤ c.cap_step-s.result) ≤ 2 ^ 61
  q-small = omega (arith, abs-add (pos p) c.cap_step-s.result, z-small)

  q_back : read (pos p +ℤ c.cap_step-s.result) ≡ pos p +ℤ c.cap_step-s.result
  q_back = back _ (omega (arith, q-small))

pub table_step-requires : goal.table_step-requires
table_step-requires c =
    rw (back c.error.result (omega (arith, x-small c))) (omega arith, x-small c)

pub overflow_add-p : goal.overflow_add-p
overflow_add-p c = let a = c.before in rw (p_back a, z-back a) (small (omega (arith, q-small a)))

pub adjust-requires : goal.adjust-requires
adjust-requires c = let a = c.before in rw (p_back a, z-back a, q_back a) (q-small a)

pub returns : goal.returns
returns c =
    let a = c.before.before.before in
    rules_lem _ _ _ _ _ _ _ _ _
    a.before.before.error.ensures
    (rw (x-back a) at a.before.«table_step».ensures)
    (z-is a)
    (rw (p_back a, z-back a, q_back a) at c.before.adjust.ensures)
    (rw (to_z-of_z (sfits_of c.before.adjust.type_inv)) at c.limit.ensures)
