-- Question 1 for 64 flows: the tests of rules 1 and 2 say what they are to say.
use mathlib.Core.Path.{◌≡◌, refl}
use mathlib.Core.Bool.{Bool, false}
use mathlib.Core.List.{List}
use Prim.Native.Nat.{ℕ, zero, suc}
use native.Mathlib.Omega.{arith}
use borrow.Author.Tests.{eqb-false, eqb-true, ltb-false, ltb-true}
use lib.ListN.{length}
use Rattle.pie.specs.declared.Verdict.{Verdict}
use Rattle.pie_guarantees.proofs.Says.{Says}
use Rattle.pie_guarantees.proofs.WhichVerdict.{exactly-when, never-inactive}
use Rattle.fq_state.specs.Flow.{pie_of}
use Rattle.fq_state.specs.State.{State, flow_at}
use Rattle.fq_state.specs.declared.Common.{Common}
use Rattle.fq_rules.specs.Answer.{Reply, unless_refused, verdict}
use Rattle.fq_rules.specs.Arrival.{arrival, arrival_refusal, bytes_full, flow_number, slots_full, verdict_of}
use Rattle.fq_guarantees.specs.WhichVerdict.{WhichVerdict, limits_of}

module _ (c : Common) (size : ℕ) where
  rule-1 : Says (bytes_full c size) (limits_of c size).Rule1
  rule-1 = omega (arith, ltb-true, ltb-false)

  rule-2 : Says (slots_full c) (limits_of c size).Rule2
  rule-2 = omega (arith, eqb-true, eqb-false)

-- a reply that is a verdict is the accepted one
accepted-verdict : (n : ℕ) (s : State) (r : Reply) (x v : Verdict) → r.answer ≡ verdict x →
    (unless_refused n s r).answer ≡ verdict v → x ≡ v
accepted-verdict zero s r x v e given = cc
accepted-verdict (suc n) s r x v e given = cc

decided-verdict : (s : State) (handles sizes : List ℕ) (clock : ℕ) (key : List ℕ) (size : ℕ) (ecn : Bool) (u : ℕ) (v : Verdict) →
    (arrival s handles sizes clock key size ecn u).answer ≡ verdict v →
    verdict_of s.common (flow_at s.flows (flow_number s key)) size ecn u ≡ v
unfolding arrival
decided-verdict s handles sizes clock key size ecn u v e =
    accepted-verdict (arrival_refusal s (length handles) sizes clock key size ecn u) s _ _ v refl e

pub which-verdict : WhichVerdict
unfolding verdict_of
which-verdict s handles sizes clock key size ecn u v e w =
    let c = s.common in
    let f = flow_at s.flows (flow_number s key) in
    exactly-when (pie_of f) c.settings.target.0 f.bytes ecn u (limits_of c size)
    (bytes_full c size) (slots_full c) false (rule-1 c size) (rule-2 c size) never-inactive v
    (decided-verdict s handles sizes clock key size ecn u v e) w
