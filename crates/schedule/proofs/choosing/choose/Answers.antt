use mathlib.Core.Path.{◌≡◌, ap, refl, sym, ◌∙◌}
use mathlib.Core.Bool.{true}
use mathlib.Core.List.{List}
use Prim.Native.Nat.{ℕ, ◌+◌, ◌-◌}
use native.Mathlib.Omega.{arith}
use lib.ListN.{length}
use Rattle.schedule.specs.Choosing.{choose_in, look}
use Rattle.schedule.specs.Passing.{Found, found, found_in}
use Rattle.schedule.specs.Ring.{Schedule, chosen_in, schedule_of, two_lists}
use Rattle.schedule.specs.WellFormed.{lists_fit}
use Rattle.schedule.proofs.Chosen.{ends_at, goes_on, used-up}
use Rattle.schedule.proofs.InRing.{read_found}
use Rattle.schedule.proofs.Looks.{leads-reads, look-leads}
use Rattle.schedule.proofs.choosing.choose.Goals as goal

pub loop-init : goal.loop-init
loop-init c =
    let a = c.args in
    let none : a.looks - 0 ≡ a.looks = omega arith in
    (c.requires, c.told-order, ap (λ n. found_in n a.counts.now (schedule_of a.lists.now a.order.now a.deficits.now)) none)

-- what the caller gets
gives : (looks : ℕ) (counts : List ℕ) (s t : Schedule) (flow : ℕ) → lists_fit s.lists ≡ true → length s.order ≡ 64 →
    found flow t ≡ found_in looks counts s →
    let c = choose_in looks counts (two_lists s) in (flow ≡ c.flow) × (two_lists t ≡ c.lists) × (t ≡ chosen_in s c)
gives looks counts s t flow h long e =
    let same = ap (λ (k : Found). k.schedule) e in
    (ap (λ (k : Found). k.flow) e, read_found looks counts s t (record { long = long; fits = h }) same, same)

pub returns-in-Some-clause-fact : goal.returns-in-Some-clause-fact
returns-in-Some-clause-fact c =
    let a = c.args in
    let at = c.loop in
    let s = schedule_of at.lists at.order at.deficits in
    let n = c.look-found.new in
    let t = schedule_of n.lists n.order n.deficits in
    let l = look a.counts.now (two_lists s) in
    let leads = look-leads a.counts.now s (record { long = at.invariant.1; fits = at.invariant.0.0 }) in
    let end = ends_at a.counts.now s t (a.looks - at.counter) c.look-found.result (omega arith) l refl (leads-reads s l leads)
    c.look-found.ensures.s_after c.in-Some.flow c.in-Some.is in
    gives a.looks a.counts.now (schedule_of a.lists.now a.order.now a.deficits.now) t c.in-Some.flow c.requires.0 c.told-order
    (sym end ∙ at.invariant.2)

pub loop-preserved : goal.loop-preserved
loop-preserved c =
    let a = c.args in
    let at = c.loop in
    let s = schedule_of at.lists at.order at.deficits in
    let n = c.look-found.new in
    let t = schedule_of n.lists n.order n.deficits in
    let l = look a.counts.now (two_lists s) in
    let leads = look-leads a.counts.now s (record { long = at.invariant.1; fits = at.invariant.0.0 }) in
    let on = goes_on a.counts.now s t (a.looks - at.counter) c.look-found.result (omega arith) l refl (leads-reads s l leads)
    c.look-found.ensures.s_after c.in_default.is in
    let fewer : a.looks - (at.counter + 1) ≡ a.looks - at.counter - 1 = omega arith in
    rw fewer (c.look-found.ensures.places.0, c.look-found.ensures.places.1 ∙ at.invariant.1, sym on ∙ at.invariant.2)

pub returns-clause-fact : goal.returns-clause-fact
returns-clause-fact c =
    let a = c.args in
    let at = c.loop in
    let s = schedule_of at.lists at.order at.deficits in
    let all = sym (used-up a.counts.now s (a.looks - at.counter) (omega arith)) ∙ at.invariant.2 in
    gives a.looks a.counts.now (schedule_of a.lists.now a.order.now a.deficits.now) s 0 c.requires.0 c.told-order all
