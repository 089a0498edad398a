-- The five counts of the record follow the answers: a verdict raises its own by one.
use mathlib.Core.Path.{◌≡◌, refl}
use mathlib.Core.Bool.{cond}
use mathlib.Core.List.{List}
use Prim.Native.Nat.{ℕ, ◌+◌}
use native.Mathlib.Omega.{arith}
use lib.ListN.{get_or, length}
use Rattle.ring_guarantees.proofs.Answers as ring
use Rattle.pie.specs.Verdicts.{place_of, raised}
use Rattle.pie.specs.declared.Verdict.{Verdict}
use Rattle.pie.proofs.Counts.{length-raised}
use Rattle.refusals.specs.Answer as queue
use Rattle.fq_rules.specs.Answer.{Answer, departed, refused, ticked, verdict}
use Rattle.fq_guarantees.specs.Conservation.{is_verdict}

-- the counts after this answer
abbrev pub counted_by : Answer → List ℕ → List ℕ
counted_by (refused number) counts = counts
counted_by (verdict v) counts = raised counts v
counted_by (departed flow handle size) counts = counts
counted_by ticked counts = counts

pub counted-at : (counts : List ℕ) (a : Answer) (v : Verdict) → length counts ≡ 5 →
    get_or (counted_by a counts) (place_of v) 0 ≡ get_or counts (place_of v) 0 + cond (is_verdict v a) 1 0
counted-at counts (refused number) v five = omega arith
counted-at counts (verdict w) v five = ring.counted-at counts (queue.verdict w) v five
counted-at counts (departed flow handle size) v five = omega arith
counted-at counts ticked v five = omega arith

pub length-counted : (counts : List ℕ) (a : Answer) → length (counted_by a counts) ≡ length counts
length-counted counts (refused number) = refl
length-counted counts (verdict v) = length-raised counts v
length-counted counts (departed flow handle size) = refl
length-counted counts ticked = refl
