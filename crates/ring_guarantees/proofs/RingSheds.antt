-- The ring queue as a kind of queue that sheds load by PIE (crate pie_guarantees): what is read of it, and what each of its calls does.
use mathlib.Core.Path.{◌≡◌, refl}
use mathlib.Core.Bool.{Bool, true, false, not, cond, ◌&&◌, ◌||◌, false≢true, true≢false}
use mathlib.Core.Logic.{◌⊎◌, inl, inr}
use Prim.Native.Nat.{ℕ, zero, suc, ◌+◌, ◌<◌}
use native.Mathlib.Omega.{arith}
use borrow.Author.Tests.{eqb-true}
use lib.Dec.{eqb}
use Rattle.pie.specs.Backlog.{entered}
use Rattle.pie.specs.Verdicts.{admitted}
use Rattle.pie.specs.declared.Backlog.{Backlog}
use Rattle.pie.specs.declared.Verdict.{Verdict}
use Rattle.laws.proofs.Tests.{and_right}
use Rattle.pie_guarantees.specs.Shedding as general
use Rattle.pie_guarantees.specs.Shedding.{Activated, Begun, Does, InRange, Shedding, Sheds, Told}
use Rattle.ring.specs.Activity.{above_third, begun, is_calm}
use Rattle.refusals.specs.Answer.{Answer, departed, made, refused, ticked, verdict}
use Rattle.ring.specs.Arrival as queue
use Rattle.ring.specs.Arrival.{arrived_pie, arrived_state, verdict_of}
use Rattle.ring.specs.Departure.{departed_state}
use Rattle.ring.specs.State.{well_formed}
use Rattle.ring.specs.Tick.{ticked_state}
use Rattle.ring.specs.declared.State.{State}
use Rattle.ring.proofs.Facts.{facts}
use Rattle.ring.specs.Calls.{Call, arrive, depart, reply, update}
use Rattle.ring_guarantees.specs.Calls.{ring_calls}
use Rattle.ring_guarantees.proofs.Replies.{at-reply, reply-well-formed}

-- ── what is read ──

abbrev pub tells : Answer → Told
tells (refused number) = general.nothing
tells made = general.nothing
tells (verdict v) = general.decided v
tells (departed handle size) = general.departed size
tells ticked = general.ticked

abbrev pub clock_in : Call → ℕ
clock_in (arrive handles sizes clock handle size ecn u) = clock
clock_in (depart handles sizes clock) = clock
clock_in (update clock) = clock

abbrev size_in : Call → ℕ
size_in (arrive handles sizes clock handle size ecn u) = size
size_in (depart handles sizes clock) = 0
size_in (update clock) = 0

abbrev ecn_in : Call → Bool
ecn_in (arrive handles sizes clock handle size ecn u) = ecn
ecn_in (depart handles sizes clock) = false
ecn_in (update clock) = false

abbrev u_in : Call → ℕ
u_in (arrive handles sizes clock handle size ecn u) = u
u_in (depart handles sizes clock) = 0
u_in (update clock) = 0

abbrev pub ring_shedding : Shedding
ring_shedding =
    record {
      kind = ring_calls;
      pie = λ s. s.pie;
      target = λ s. s.settings.target.0;
      count = λ s. s.backlog.count;
      bytes = λ s. s.backlog.bytes.0;
      last = λ s. s.last.0;
      calm = λ s. is_calm s.settings;
      active = λ s. s.active;
      begun = begun;
      Formed = λ s. well_formed s ≡ true;
      clock = clock_in;
      size = size_in;
      ecn = ecn_in;
      u = u_in;
      bytes_full = λ s c. queue.bytes_full s (size_in c);
      slots_full = λ s c. queue.slots_full s;
      tells = tells;
    }

-- ── where an arrival's rules begin ──

ring-begins : (s : State) → Begun ring_shedding s (begun s)
unfolding begun
ring-begins s =
    record {
      turned = go s.active (above_third s) refl refl;
      target = refl;
      count = refl;
      bytes = refl;
      last = refl;
      bytes_full = λ c. refl;
      slots_full = λ c. refl;
    }
  where
    go : (a t : Bool) → s.active ≡ a → above_third s ≡ t →
        (((begun s).pie ≡ s.pie) × ((begun s).active ≡ s.active)) ⊎ Activated ring_shedding s (begun s)
    go true t e f = inl (rw e (refl, refl))
    go false true e f = inr (record { inactive = e; active = rw (e, f); pie = rw (e, f) })
    go false false e f = inl (rw (e, f) (refl, refl))

-- ── what a call does ──

entered-backlog : (t : Bool) (b : Backlog) (size : ℕ) →
    ((cond t (entered b size) b).count ≡ cond t (b.count + 1) b.count)
    × ((cond t (entered b size) b).bytes.0 ≡ cond t (b.bytes.0 + size) b.bytes.0)
entered-backlog true b size = (refl, refl)
entered-backlog false b size = (refl, refl)

arrived-sum : (s : State) (v : Verdict) → (arrived_pie s v).accumulated.0 ≡ general.accumulated_with ring_shedding s v
arrived-sum s v = go s.active refl
  where
    go : (t : Bool) → s.active ≡ t → (arrived_pie s v).accumulated.0 ≡ general.accumulated_with ring_shedding s v
    go true e = rw e
    go false e = rw e

ring-does : (s : State) (c : Call) → Does ring_shedding s (reply s c).state c (tells (reply s c).answer)
unfolding arrived_state begun departed_state ticked_state verdict_of
ring-does s =
    at-reply s (λ c r. Does ring_shedding s r.state c (tells r.answer))
    (λ c number. record { pie = refl; active = refl; target = refl; count = refl; bytes = refl; last = refl })
    (λ handles sizes clock handle size ecn u a. (
      a.formed,
      record {
        since = omega (arith, a.known.last-high, a.clock-low);
        verdict = refl;
        accumulated = arrived-sum (begun s) (verdict_of (begun s) size ecn u);
        count = (entered-backlog (admitted (verdict_of (begun s) size ecn u)) s.backlog size).0;
        bytes = (entered-backlog (admitted (verdict_of (begun s) size ecn u)) s.backlog size).1;
        prob = refl;
        old = refl;
        allowance = refl;
        rate = refl;
        active = refl;
        target = refl;
        last = refl;
      },
    ))
    (λ handles sizes clock a. (
      a.formed,
      record {
        some = a.some;
        fits = a.head-fits;
        others = a.left-high;
        count = refl;
        bytes = refl;
        rate = refl;
        prob = refl;
        old = refl;
        allowance = refl;
        accumulated = refl;
        active = refl;
        target = refl;
        last = refl;
      },
    ))
    (λ clock a. (
      a.formed,
      record { due = a.due; pie = refl; active = λ e. rw e; last = refl; target = refl; count = refl; bytes = refl },
    ))

some-queued : (runs : Bool) (count : ℕ) → not (runs && eqb count 0) ≡ true → runs ≡ true → 0 < count
some-queued true zero busy e = absurd (false≢true busy)
some-queued true (suc n) busy e = omega arith
some-queued false count busy e = absurd (false≢true e)

inactive-none : (active calm : Bool) (p : ℕ) → active || (calm && eqb p 0) ≡ true → active ≡ false → p ≡ 0
inactive-none true calm p e f = absurd (true≢false f)
inactive-none false calm p e f = eqb-true p 0 (and_right calm (eqb p 0) e)

ring-ranges : (s : State) → well_formed s ≡ true → InRange ring_shedding s
ring-ranges s w =
    let f = facts s w in
    record {
      target-low = omega (arith, f.target-low);
      prob-high = f.prob-high;
      allowance-high = f.allowance-high;
      accumulated-high = f.accumulated-high;
      bytes_high = f.bytes_high;
      inactive = inactive-none s.active (is_calm s.settings) s.pie.prob.0 f.inactive-calm;
      busy = some-queued s.pie.rate.measuring s.backlog.count f.busy;
    }

pub ring-sheds : Sheds ring_shedding
ring-sheds = record { begins = ring-begins; does = ring-does; kept = λ s c w. reply-well-formed s w c; ranges = ring-ranges }
