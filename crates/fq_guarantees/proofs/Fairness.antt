-- Fairness over lists of calls is fairness over the stretch that they are.
use mathlib.Core.Path.{◌≡◌}
use mathlib.Core.List.{List, foldl}
use Prim.Native.Nat.{ℕ, ◌≤◌, min}
use native.Mathlib.Omega.{arith}
use lib.ListN.{length}
use Rattle.calls.specs.Traces.{trace}
use Rattle.calls.proofs.Traces.{along}
use Rattle.refusals.specs.Rows.{first_refusal}
use Rattle.schedule_guarantees.proofs.Fairness as stretch
use Rattle.fq_state.specs.State.{State}
use Rattle.fq_rules.specs.Answer.{size_in}
use Rattle.fq_guarantees.specs.Acceptance.{acceptance}
use Rattle.fq_guarantees.specs.AsStretch.{line_of}
use Rattle.fq_guarantees.specs.Calls.{Call, arrive, depart, update}
use Rattle.fq_guarantees.specs.Fairness.{Fairness}
use Rattle.fq_guarantees.specs.FairnessFromFresh.{FairnessFromFresh}
use Rattle.fq_guarantees.specs.FairnessBySize.{FairnessBySize, HandOutAtMost}
use Rattle.fq_guarantees.specs.Lists.{fq_calls}
use Rattle.fq_guarantees.specs.Refusals.{rows_of}
use Rattle.fq_guarantees.specs.SixtyFour.{Record64, fresh64}
use Rattle.fq_guarantees.proofs.Owed.{from-fresh, owed-by}
use Rattle.fq_guarantees.proofs.PartsKept.{two-lists-sound}
use Rattle.fq_guarantees.proofs.Replies.{by_number}
use Rattle.fq_guarantees.proofs.Stretches.{all-fit, served-as, stretch_of, waits-as}
use Rattle.fq_guarantees.proofs.WhenAccepted.{departure-accepted}

-- ── no packet is larger than 65,535 bytes ──

accepted-size : (s : State) (c : Call) → first_refusal (rows_of s c) ≡ 0 → size_in (acceptance s c).answer ≤ 65535
accepted-size s (arrive handles sizes clock key handle size ecn u) e = omega arith
accepted-size s (depart handles sizes clock) e = (departure-accepted s (length handles) sizes clock e).head.high
accepted-size s (update clock) e = omega arith

pub any-size : (start : Record64) (calls : List Call) → HandOutAtMost 65535 (trace fq_calls start calls)
any-size start calls =
    along fq_calls (λ s. Unit {0}) (λ a. size_in a.answer.answer ≤ 65535) (λ s k c. tt)
    (λ s k c. by_number (λ r. size_in r.answer ≤ 65535) s.state c (λ n some given. omega arith) (accepted-size s.state c))
    start calls tt

-- so `most` or 65,535 serves, whichever is less
pub smaller-size : (most : ℕ) (start : Record64) (calls : List Call) → HandOutAtMost most (trace fq_calls start calls) →
    HandOutAtMost (min most 65535) (trace fq_calls start calls)
smaller-size most start calls fit a m = omega (arith, fit a m, any-size start calls a m)

-- ── fairness ──

pub fairness-by-size : FairnessBySize
fairness-by-size start calls f g most h ne fit owed-f owed-g wait-f wait-g =
    let low = min most 65535 in
    let r = stretch.fairness (line_of start.state) (stretch_of start calls) f g low (two-lists-sound start.state h) ne (omega arith)
    (all-fit low start calls (smaller-size most start calls fit)) (waits-as f low start calls h wait-f (omega arith))
    (waits-as g low start calls h wait-g (omega arith)) in
    omega (arith, r, served-as f start calls h, served-as g start calls h)

pub fairness : Fairness
fairness start calls f g h ne wait-f wait-g =
    fairness-by-size start calls f g 65535 h ne (any-size start calls) (omega arith) (omega arith) wait-f wait-g

-- ── from fresh ──

pub fairness-from-fresh : FairnessFromFresh
fairness-from-fresh settings clock earlier calls f g most e ne fit wait-f wait-g =
    let start = foldl fq_calls.next (fresh64 settings clock) earlier in
    let k = from-fresh most settings clock earlier calls e fit in
    fairness-by-size start calls f g most k.sound ne k.fit (owed-by most f start calls k wait-f)
    (owed-by most g start calls k wait-g) wait-f wait-g
