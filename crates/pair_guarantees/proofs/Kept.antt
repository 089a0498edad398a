-- Never 2: every accepted call returns well-formed records where it is given some.
use mathlib.Core.Path.{◌≡◌, refl}
use mathlib.Core.Bool.{Bool, true, false, ◌&&◌}
use Prim.Native.Nat.{◌+◌, ◌≤◌, ◌<◌}
use native.Mathlib.Omega.{arith}
use lib.Dec.{eqb, leb}
use borrow.Author.Tests.{eqb-false, leb-false}
use Rattle.pie.specs.Verdicts.{total}
use Rattle.store.specs.declared.Store.{Store}
use Rattle.pair_rules.specs.Queues.{common_slots, common_use, other, own, paired, storing}
use Rattle.pair_rules.specs.WellFormed.{well_formed}
use Rattle.pair_rules.specs.declared.Pair.{Pair}
use Rattle.pair_rules.specs.declared.State.{State}
use Rattle.pair_rules.specs.declared.Which.{Which}
use Rattle.pair_rules.specs.declared.Which.TheVariants.{Intercom, Passengers}
use Rattle.pair_rules.proofs.Facts.{Facts, QueueFits, SharedFits, well-formed}
use Rattle.pair_rules.specs.Arrival.{slots_full}

pub own-fits : (w : Which) (p : Pair) → Facts p → QueueFits p.shared.slots (own w p)
own-fits Intercom p f = f.intercom
own-fits Passengers p f = f.passengers

pub held-total : (w : Which) (p : Pair) → Facts p →
    (own w p).backlog.count + (other w p).backlog.count + p.shared.store.spare ≡ p.shared.store.used
held-total Intercom p f = f.both.used-is
held-total Passengers p f = omega (arith, f.both.used-is)

-- with another state of the called queue and another store
pub changed-formed : (w : Which) (p : Pair) (store : Store) (s : State) → Facts p → QueueFits p.shared.slots s →
    store.freed < p.shared.slots → store.used ≤ p.shared.slots →
    s.backlog.count + (other w p).backlog.count + store.spare ≡ store.used →
    common_use (paired w (storing p.shared store) s (other w p)) ≤ common_slots p.shared →
    well_formed (paired w (storing p.shared store) s (other w p)) ≡ true
changed-formed w p store s f fits freed used total common = go w total common
  where
    shared : SharedFits (storing p.shared store)
    shared =
        record {
          slots-low = f.shared.slots-low;
          slots-high = f.shared.slots-high;
          reserves-high = f.shared.reserves-high;
          freed-high = freed;
          used_high = used;
        }

    go : (w : Which) → s.backlog.count + (other w p).backlog.count + store.spare ≡ store.used →
        common_use (paired w (storing p.shared store) s (other w p)) ≤ common_slots p.shared →
        well_formed (paired w (storing p.shared store) s (other w p)) ≡ true
    go Intercom total common =
        well-formed (paired Intercom (storing p.shared store) s p.passengers)
        (record { shared = shared; intercom = fits; passengers = f.passengers; both = record { common-high = common; used-is = total } })
    go Passengers total common =
        well-formed (paired Passengers (storing p.shared store) s p.intercom)
        (record {
          shared = shared;
          intercom = f.intercom;
          passengers = fits;
          both = record { common-high = common; used-is = omega arith };
        })

neither : {A : Type 0} (a b : Bool) → a && b ≡ false → (a ≡ false → A) → (b ≡ false → A) → A
neither true b e first second = second e
neither false b e first second = first refl

-- 16: where rule 2 does not hold, not every slot is held, and one packet more leaves the common use in its bounds
pub record Room (w : Which) (p : Pair) : Type 0 where
  pub free : (own w p).backlog.count + (other w p).backlog.count < p.shared.slots
  pub common : (store : Store) (s : State) → s.backlog.count ≡ (own w p).backlog.count + 1 →
      common_use (paired w (storing p.shared store) s (other w p)) ≤ common_slots p.shared

pub room : (w : Which) (p : Pair) → Facts p → slots_full p w ≡ false → Room w p
room Intercom p f e =
    let first = p.shared.reserves.intercom in
    let a = p.intercom.backlog.count in
    let fits = f.shared.reserves-high in
    let high = f.both.common-high in
    neither (leb first a) (eqb (common_use p) (common_slots p.shared)) e
    (λ t. let l = leb-false first a t in record { free = omega arith; common = λ store s n. omega arith })
    (λ t. let l = eqb-false (common_use p) (common_slots p.shared) t in record { free = omega arith; common = λ store s n. omega arith })
room Passengers p f e =
    let second = p.shared.reserves.passengers in
    let b = p.passengers.backlog.count in
    let fits = f.shared.reserves-high in
    let high = f.both.common-high in
    neither (leb second b) (eqb (common_use p) (common_slots p.shared)) e
    (λ t. let l = leb-false second b t in record { free = omega arith; common = λ store s n. omega arith })
    (λ t. let l = eqb-false (common_use p) (common_slots p.shared) t in record { free = omega arith; common = λ store s n. omega arith })

-- one that leaves or stays does too
pub no_more : (w : Which) (p : Pair) (store : Store) (s : State) → Facts p → s.backlog.count ≤ (own w p).backlog.count →
    common_use (paired w (storing p.shared store) s (other w p)) ≤ common_slots p.shared
no_more Intercom p store s f less = let high = f.both.common-high in omega arith
no_more Passengers p store s f less = let high = f.both.common-high in omega arith
