-- What activity changes: where the queue turns active the algorithm begins anew, and no verdict is another.
use mathlib.Core.Path.{◌≡◌, refl, ap, ◌∙◌}
use mathlib.Core.Bool.{Bool, true, false, cond, not, ◌&&◌, ◌||◌, true≢false}
use Prim.Native.Nat.{ℕ, ◌<◌}
use lib.Dec.{eqb}
use borrow.Author.Tests.{eqb-true, not-true}
use Rattle.laws.proofs.Tests.{and_left, and_right}
use Rattle.units.specs.Kinds.{prob}
use Rattle.units.specs.declared.Prob.{Prob}
use Rattle.pie.specs.Constants.{most_accumulated}
use Rattle.pie.specs.DropDecision.{accumulated_after, drop_decision}
use Rattle.pie.specs.Start.{restarted}
use Rattle.pie.specs.declared.Pie.{Pie}
use Rattle.pie.specs.declared.Verdict.{Verdict}
use Rattle.pie.specs.declared.Verdict.TheVariants.{DroppedBytes, DroppedEarly, DroppedSlots, Enqueued, Marked}
use Rattle.pie.proofs.NeverEarly.{never-early, nothing-accumulates}
use Rattle.ring.specs.Activity.{above_third, begun, is_calm, turns_active}
use Rattle.ring.specs.Arrival.{arrived_pie, bytes_full, slots_full, verdict_of}
use Rattle.ring.specs.declared.State.{State}
use Rattle.ring.proofs.Facts.{Facts}

-- the full allowance spares a packet, as inactivity does
spared-alike : (active third : Bool) (pie : Pie) (target bytes : ℕ) (ecn : Bool) (u : ℕ) →
    let turns = not active && third in
    cond (active || turns) (drop_decision (cond turns restarted pie) target bytes ecn u) Enqueued
    ≡ cond active (drop_decision pie target bytes ecn u) Enqueued
unfolding drop_decision
spared-alike true third pie target bytes ecn u = refl
spared-alike false true pie target bytes ecn u = refl
spared-alike false false pie target bytes ecn u = refl

pub verdict-begun : (s : State) (size : ℕ) (ecn : Bool) (u : ℕ) → verdict_of (begun s) size ecn u ≡ verdict_of s size ecn u
unfolding begun verdict_of
verdict-begun s size ecn u =
    ap (λ v. cond (bytes_full s size) DroppedBytes (cond (slots_full s) DroppedSlots v))
    (spared-alike s.active (above_third s) s.pie s.settings.target.0 s.backlog.bytes.0 ecn u)

or-none : (b : Bool) → b || false ≡ b
or-none true = refl
or-none false = refl

or-any : (b : Bool) → b || true ≡ true
or-any true = refl
or-any false = refl

-- a queue that does not turn active
pub begun-same : (s : State) → turns_active s ≡ false → begun s ≡ s
unfolding begun
begun-same s e = rw (e, or-none s.active)

-- one that does: whatever the verdict, the algorithm is as it begins
begun-anew : (s : State) (v : Verdict) → s.active ≡ false → above_third s ≡ true → arrived_pie (begun s) v ≡ restarted
unfolding begun accumulated_after
begun-anew s Enqueued e f = rw (e, f)
begun-anew s Marked e f = rw (e, f)
begun-anew s DroppedBytes e f = rw (e, f)
begun-anew s DroppedSlots e f = rw (e, f)
begun-anew s DroppedEarly e f = rw (e, f)

pub arrived-anew : (s : State) (v : Verdict) → turns_active s ≡ true → arrived_pie (begun s) v ≡ restarted
arrived-anew s v e =
    begun-anew s v (not-true s.active (and_left (not s.active) (above_third s) e)) (and_right (not s.active) (above_third s) e)

pub active-begun : (s : State) → turns_active s ≡ true → (begun s).active ≡ true
unfolding begun
active-begun s e = rw (e, or-any s.active)

-- an inactive queue's probability is 0, and so rules 3 to 7 would decide as it does
pub decided-alike : (active : Bool) (pie : Pie) (target bytes : ℕ) (ecn : Bool) (u : ℕ) (v : Verdict) (sum : Prob) →
    (active ≡ false → pie.prob.0 ≡ 0) → pie.accumulated.0 < most_accumulated →
    v ≡ drop_decision pie target bytes ecn u → sum ≡ prob (accumulated_after pie target bytes v) →
    (v ≡ cond active (drop_decision pie target bytes ecn u) Enqueued)
    × (sum ≡ cond active (prob (accumulated_after pie target bytes v)) pie.accumulated)
decided-alike true pie target bytes ecn u v sum none h e f = (e, f)
decided-alike false pie target bytes ecn u v sum none h e f =
    let same = e ∙ never-early pie target bytes ecn u (none refl) h in
    (same, f ∙ rw same (ap prob (nothing-accumulates pie target bytes (none refl))))

inactive-none : (active calm : Bool) (p : ℕ) → active || (calm && eqb p 0) ≡ true → active ≡ false → p ≡ 0
inactive-none true calm p h e = absurd (true≢false e)
inactive-none false calm p h e = eqb-true p 0 (and_right calm (eqb p 0) h)

pub inactive-zero : (s : State) → Facts s → s.active ≡ false → s.pie.prob.0 ≡ 0
inactive-zero s f e = inactive-none s.active (is_calm s.settings) s.pie.prob.0 f.inactive-calm e

-- a plain queue is active
plain-acts : (active calm zero : Bool) → active || (calm && zero) ≡ true → calm ≡ false → active ≡ true
plain-acts true calm zero h e = refl
plain-acts false calm zero h e = rw e at h

pub plain-active : (s : State) → Facts s → is_calm s.settings ≡ false → s.active ≡ true
plain-active s f e = plain-acts s.active (is_calm s.settings) _ f.inactive-calm e
