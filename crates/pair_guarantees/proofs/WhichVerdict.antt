-- Question 1 for either queue: its tests of rules 1 and 2 say what they are to say.
use mathlib.Core.Path.{◌≡◌, refl}
use mathlib.Core.Bool.{Bool, false}
use mathlib.Core.List.{List}
use Prim.Native.Nat.{ℕ, zero, suc, ◌≤◌}
use native.Mathlib.Omega.{arith}
use borrow.Author.Tests.{eqb-false, eqb-true, leb-false, leb-true, ltb-false, ltb-true}
use lib.Dec.{eqb, leb}
use lib.ListN.{length}
use Rattle.pie.specs.declared.Verdict.{Verdict}
use Rattle.refusals.specs.Answer.{verdict}
use Rattle.pie_guarantees.proofs.Says.{Says, both_say}
use Rattle.pie_guarantees.proofs.WhichVerdict.{exactly-when, never-inactive}
use Rattle.pair_rules.specs.Answer.{Reply, unless_refused}
use Rattle.pair_rules.specs.Arrival.{arrival, arrival_refusal, bytes_full, slots_full, verdict_of}
use Rattle.pair_rules.specs.Queues.{common_slots, common_use, own, reserve_of}
use Rattle.pair_rules.specs.declared.Pair.{Pair}
use Rattle.pair_rules.specs.declared.Which.{Which}
use Rattle.pair_guarantees.specs.WhichVerdict.{WhichVerdict, limits_of}

module _ (p : Pair) (q : Which) (size : ℕ) where
  rule-1 : Says (bytes_full (own q p) size) (limits_of p q size).Rule1
  rule-1 = omega (arith, ltb-true, ltb-false)

  rule-2 : Says (slots_full p q) (limits_of p q size).Rule2
  rule-2 = both_say most none
    where
      most : Says (leb (reserve_of q p.shared) (own q p).backlog.count) (reserve_of q p.shared ≤ (own q p).backlog.count)
      most = omega (arith, leb-true, leb-false)

      none : Says (eqb (common_use p) (common_slots p.shared)) (common_use p ≡ common_slots p.shared)
      none = omega (arith, eqb-true, eqb-false)

-- a reply that is a verdict is the accepted one
accepted-verdict : (n : ℕ) (p : Pair) (r : Reply) (x v : Verdict) → r.answer ≡ verdict x →
    (unless_refused n p r).answer ≡ verdict v → x ≡ v
accepted-verdict zero p r x v e given = cc
accepted-verdict (suc n) p r x v e given = cc

decided-verdict : (p : Pair) (q : Which) (handles sizes : List ℕ) (clock size : ℕ) (ecn : Bool) (u : ℕ) (v : Verdict) →
    (arrival p q handles sizes clock size ecn u).answer ≡ verdict v → verdict_of p q size ecn u ≡ v
unfolding arrival
decided-verdict p q handles sizes clock size ecn u v e =
    accepted-verdict (arrival_refusal p q (length handles) sizes clock size ecn u) p _ (verdict_of p q size ecn u) v refl e

pub which-verdict : WhichVerdict
unfolding verdict_of
which-verdict p q handles sizes clock size ecn u v e w =
    let s = own q p in
    exactly-when s.pie s.settings.target.0 s.backlog.bytes.0 ecn u (limits_of p q size)
    (bytes_full s size) (slots_full p q) false (rule-1 p q size) (rule-2 p q size) never-inactive v
    (decided-verdict p q handles sizes clock size ecn u v e) w
