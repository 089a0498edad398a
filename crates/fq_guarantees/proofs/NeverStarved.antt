-- No flow is starved over a list of calls, because none is over the stretch that it is.
use mathlib.Core.Path.{◌≡◌, refl}
use mathlib.Core.Bool.{Bool, true, false}
use mathlib.Core.Logic.{◌≢◌}
use mathlib.Core.List.{List, [], ◌∷◌, foldl}
use Prim.Native.Nat.{ℕ, ◌+◌, ◌*◌, ◌≤◌, min}
use native.Mathlib.Omega.{arith}
use lib.Dec.{ltb}
use lib.ListN.{length}
use borrow.Author.Tests.{ltb-false, ltb-true, ne_eqb}
use Rattle.calls.specs.Traces.{trace}
use Rattle.refusals.specs.Rows.{first_refusal}
use Rattle.schedule.specs.Ring.{deficit_of}
use Rattle.schedule.specs.TwoLists.{quantum, zero_deficit}
use Rattle.schedule_guarantees.proofs.NeverStarved as stretch
use Rattle.fq_state.specs.State.{State}
use Rattle.fq_rules.specs.Departure.{choice_of}
use Rattle.fq_guarantees.specs.Acceptance.{acceptance}
use Rattle.fq_guarantees.specs.AsStretch.{line_of}
use Rattle.fq_guarantees.specs.Calls.{Call, arrive, depart, update}
use Rattle.fq_guarantees.specs.Fairness.{Backlogged, bytes_served, handed_out}
use Rattle.fq_guarantees.specs.FairnessBySize.{HandOutAtMost}
use Rattle.fq_guarantees.specs.Kept.{Sound}
use Rattle.fq_guarantees.specs.Lists.{fq_calls}
use Rattle.fq_guarantees.specs.NeverStarved.{NeverStarved}
use Rattle.fq_guarantees.specs.NeverStarvedFromFresh.{NeverStarvedFromFresh}
use Rattle.fq_guarantees.specs.Refusals.{rows_of}
use Rattle.fq_guarantees.specs.SixtyFour.{Record64, fresh64}
use Rattle.fq_guarantees.proofs.Fairness.{any-size, smaller-size}
use Rattle.fq_guarantees.proofs.Kept.{kept}
use Rattle.fq_guarantees.proofs.Owed.{Later, from-fresh, owed-by}
use Rattle.fq_guarantees.proofs.PartsKept.{two-lists-sound}
use Rattle.fq_guarantees.proofs.Replies.{by_number}
use Rattle.fq_guarantees.proofs.ServesQueued.{serves-queued}
use Rattle.fq_guarantees.proofs.Stretches.{all-fit, served-as, stretch_of, waits-as}
use Rattle.fq_guarantees.proofs.WhenAccepted.{departure-accepted}

-- packets of at most this size, and neither flow owes more at the start
by_size : (start : Record64) (calls : List Call) (f g most : ℕ) → Sound start.state → f ≢ g →
    HandOutAtMost most (trace fq_calls start calls) →
    zero_deficit ≤ deficit_of start.state.schedule f + most → zero_deficit ≤ deficit_of start.state.schedule g + most →
    Backlogged f start calls →
    bytes_served g (trace fq_calls start calls) ≤ 2 * bytes_served f (trace fq_calls start calls) + (3 * most + 5 * quantum)
by_size start calls f g most h ne fit owed-f owed-g wait =
    let low = min most 65535 in
    let r = stretch.never-starved (line_of start.state) (stretch_of start calls) f g low (two-lists-sound start.state h) ne
    (omega arith)
    (all-fit low start calls (smaller-size most start calls fit)) (waits-as f low start calls h wait (omega arith)) (omega arith) in
    omega (arith, r, served-as f start calls h, served-as g start calls h)

pub never-starved : NeverStarved
never-starved start calls f g h ne wait =
    by_size start calls f g 65535 h ne (any-size start calls) (omega arith) (omega arith) wait

-- ── from fresh ──

-- a departure serves one of the 64 flows
accepted-unserved : (g : ℕ) (s : State) (c : Call) → Sound s → 64 ≤ g → first_refusal (rows_of s c) ≡ 0 →
    handed_out g (acceptance s c).answer ≡ 0
accepted-unserved g s (arrive handles sizes clock key handle size ecn u) h high e = refl
accepted-unserved g s (depart handles sizes clock) h high e =
    let may = (serves-queued s h (omega (arith, (departure-accepted s (length handles) sizes clock e).some))).may in
    rw (ne_eqb (choice_of s).flow g (λ same. omega (arith, may.is-flow)))
accepted-unserved g s (update clock) h high e = refl

unserved : (g : ℕ) (start : Record64) (calls : List Call) → Sound start.state → 64 ≤ g → bytes_served g (trace fq_calls start calls) ≡ 0
unserved g start [] h high = refl
unserved g start (c ∷ calls) h high =
    let s = start.state in
    let here = by_number (λ r. handed_out g r.answer ≡ 0) s c (λ n some given. refl) (accepted-unserved g s c h high) in
    omega (arith, here, unserved g (fq_calls.next start c) calls (kept s c h) high)

pub never-starved-from-fresh : NeverStarvedFromFresh
never-starved-from-fresh settings clock earlier calls f g most e ne fit wait = go (ltb g 64) refl
  where
    start : Record64
    start = foldl fq_calls.next (fresh64 settings clock) earlier

    k : Later most start calls
    k = from-fresh most settings clock earlier calls e fit

    go : (b : Bool) → ltb g 64 ≡ b →
        bytes_served g (trace fq_calls start calls) ≤ 2 * bytes_served f (trace fq_calls start calls) + (3 * most + 5 * quantum)
    go true low =
        by_size start calls f g most k.sound ne k.fit (owed-by most f start calls k wait) (k.owed g (ltb-true g 64 low)) wait
    go false high = omega (arith, unserved g start calls k.sound (ltb-false g 64 high))
