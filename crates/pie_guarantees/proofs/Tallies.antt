-- What the tally of the answers so far tells of the state: how many packets are queued, and how far ticks on an empty queue have come.
use mathlib.Core.Path.{◌≡◌, refl, sym, ap, ◌∙◌}
use mathlib.Core.Bool.{Bool, true, false, cond, false≢true}
use mathlib.Core.Logic.{⊎_elim}
use Prim.Native.Nat.{ℕ, zero, suc, ◌+◌, ◌≤◌, ◌<◌}
use native.Mathlib.Omega.{arith}
use borrow.Author.Tests.{eqb-true}
use lib.Dec.{eqb}
use Rattle.pie.specs.Update.{updated}
use Rattle.pie.specs.Verdicts.{admitted}
use Rattle.pie.specs.declared.Pie.{Pie}
use Rattle.pie.specs.declared.Verdict.{Verdict}
use Rattle.pie.specs.declared.Verdict.TheVariants.{Enqueued, Marked, DroppedBytes, DroppedSlots, DroppedEarly}
use Rattle.laws.proofs.Choice.{at-cond}
use Rattle.pie_guarantees.specs.Recovery.{Tally, noted, nothing_yet, queued_by}
use Rattle.pie_guarantees.specs.Shedding.{Begun, InRange, Shedding, Sheds, Ticked, decided, ticked}
use Rattle.pie_guarantees.proofs.AtTold.{active-ticked, at_told}
use Rattle.pie_guarantees.proofs.Fading.{Within, none_yet, one_more, restarted-within, updated-prob-le}

-- of a state that was reached with this tally from one with `start_count` packets
pub record Tallied (k : Shedding) (least start_count : ℕ) (t : Tally) (s : k.kind.State) : Type 0 where
  pub target-high : least ≤ k.target s
  -- a true difference
  pub counted : k.count s ≡ queued_by start_count t
  pub covered : t.departures ≤ start_count + t.admissions
  -- an inactive queue's old delay may be any; where it turns active, it is 0
  pub within : k.active s ≡ true → Within least t.empty_ticks (k.pie s)

pub at-start : (k : Shedding) (least : ℕ) (s : k.kind.State) → InRange k s → least ≤ k.target s → Tallied k least (k.count s) nothing_yet s
at-start k least s r h =
    record { target-high = h; counted = omega arith; covered = omega arith; within = λ _. none_yet least (k.pie s) r.prob-high }

-- the probability and the old delay stay
same-within : (least n : ℕ) (pie pie' : Pie) → pie'.prob ≡ pie.prob → pie'.old ≡ pie.old → Within least n pie → Within least n pie'
same-within least n pie pie' p o w =
    record { prob-high = omega (arith, ap (λ m. m.0) p, w.prob-high); old-none = λ h. omega (arith, ap (λ m. m.0) o, w.old-none h) }

module _ (k : Shedding) (sheds : Sheds k) (least n : ℕ) (t : Tally) (s : k.kind.State) (known : Tallied k least n t s) where
  arrived-count : (v : Verdict) →
      (cond (admitted v) (k.count s + 1) (k.count s) ≡ queued_by n (noted n t (decided v)))
      × ((noted n t (decided v)).departures ≤ n + (noted n t (decided v)).admissions)
  arrived-count Enqueued = omega (arith, known.counted, known.covered)
  arrived-count Marked = omega (arith, known.counted, known.covered)
  arrived-count DroppedBytes = omega (arith, known.counted, known.covered)
  arrived-count DroppedSlots = omega (arith, known.counted, known.covered)
  arrived-count DroppedEarly = omega (arith, known.counted, known.covered)

  -- a tick that counts found the queue empty: by the tally, and so by the state
  pub counted-empty : InRange k s → 0 < (noted n t ticked).empty_ticks →
      (k.bytes s ≡ 0) × ((noted n t ticked).empty_ticks ≡ t.empty_ticks + 1)
  counted-empty r =
      at-cond (λ m. 0 < m → (k.bytes s ≡ 0) × (m ≡ t.empty_ticks + 1)) (eqb (queued_by n t) 0)
      (λ e h. (omega (arith, r.bytes_high, known.counted, eqb-true (queued_by n t) 0 e), refl))
      (λ e h. absurd (omega arith))

  pub ticked-within : k.active s ≡ true → (m : ℕ) → (0 < m → (k.bytes s ≡ 0) × (m ≡ t.empty_ticks + 1)) →
      Within least m (updated (k.pie s) (k.calm s) (k.target s) (k.bytes s))
  ticked-within e zero h = none_yet least _ (updated-prob-le (k.pie s) (k.calm s) (k.target s) (k.bytes s))
  ticked-within e (suc m) h =
      let c = h (omega arith) in
      let same : m ≡ t.empty_ticks = omega (arith, c.1) in
      rw (c.0, same) (one_more (k.calm s) least (k.target s) t.empty_ticks (k.pie s) known.target-high (known.within e))

  -- a queue that the tick left active was active
  was-active : (s' : k.kind.State) (c : k.kind.Call) → Ticked k s s' c → k.active s' ≡ true → k.active s ≡ true
  was-active s' c x e = go (k.active s) refl
    where
      go : (b : Bool) → k.active s ≡ b → k.active s ≡ true
      go true a = a
      go false a = absurd (false≢true (sym (x.active a) ∙ e))

  pub ticked-tallied : (s' : k.kind.State) (c : k.kind.Call) → k.Formed s → Ticked k s s' c → Tallied k least n (noted n t ticked) s'
  ticked-tallied s' c f x =
      record {
        target-high = omega (arith, x.target, known.target-high);
        counted = omega (arith, x.count, known.counted);
        covered = known.covered;
        within =
            λ e.
            let a = was-active s' c x e in
            rw (active-ticked k s s' c x a) (ticked-within a (noted n t ticked).empty_ticks (counted-empty (sheds.ranges s f)));
      }

  begun-within : (b : k.kind.State) → Begun k s b → k.active b ≡ true → Within least t.empty_ticks (k.pie b)
  begun-within b x e =
      ⊎_elim
      (λ same. rw same.0 (known.within (sym same.1 ∙ e)))
      (λ turned. rw turned.pie (restarted-within least t.empty_ticks))
      x.turned

  -- every call, accepted or refused
  pub next-tallied : (c : k.kind.Call) → Tallied k least n (noted n t (k.tells (k.kind.answer s c))) (k.kind.next s c)
  next-tallied c =
      let s' = k.kind.next s c in
      let b = k.begun s in
      let begins = sheds.begins s in
      at_told k sheds s c (λ h. Tallied k least n (noted n t h) s')
      (λ x.
      record {
        target-high = omega (arith, x.target, known.target-high);
        counted = omega (arith, x.count, known.counted);
        covered = known.covered;
        within = λ e. rw x.pie (known.within (sym x.active ∙ e));
      })
      (λ v f x.
      record {
        target-high = omega (arith, x.target, begins.target, known.target-high);
        counted = (rw begins.count at x.count) ∙ (arrived-count v).0;
        covered = (arrived-count v).1;
        within = λ e. same-within least _ (k.pie b) (k.pie s') x.prob x.old (begun-within b begins (sym x.active ∙ e));
      })
      (λ size f x.
      record {
        target-high = omega (arith, x.target, known.target-high);
        counted = omega (arith, x.count, x.some, known.counted, known.covered);
        covered = omega (arith, x.some, known.counted, known.covered);
        within = λ e. same-within least _ (k.pie s) (k.pie s') x.prob x.old (known.within (sym x.active ∙ e));
      })
      (λ f x. ticked-tallied s' c f x)
