-- What well-formed records' numbers are, as facts that `omega` reads.
use mathlib.Core.Path.{◌≡◌, ap, sym, ◌∙◌}
use mathlib.Core.Bool.{Bool, true, false, not, ◌&&◌, ◌||◌, false≢true}
use mathlib.Core.List.{◌++◌}
use Prim.Native.Nat.{ℕ, ◌+◌, ◌*◌, ◌≤◌, ◌<◌}
use lib.Dec.{eqb}
use lib.ListN.{get_or}
use borrow.Author.Tests.{eq-eqb, eqb-true, le-leb, leb-true, lt-ltb, ltb-true, not-true}
use Rattle.laws.specs.Tests.{all}
use Rattle.laws.proofs.TestLists.{all-at, false_of}
use Rattle.laws.proofs.Tests.{and_left, and_right}
use Rattle.units.specs.Kinds.{whole}
use Rattle.pie.specs.Constants.{full_allowance, largest, latest, longest, most_accumulated, most_verdicts, threshold}
use Rattle.pie.specs.Verdicts.{total}
use Rattle.pair_rules.specs.Queues.{common_slots, common_use}
use Rattle.pair_rules.specs.WellFormed.{both_conditions, queue_conditions, shared_conditions, slots_conditions, well_formed}
use Rattle.pair_rules.specs.declared.Pair.{Pair}
use Rattle.pair_rules.specs.declared.Shared.{Shared}
use Rattle.pair_rules.specs.declared.State.{State}
use Rattle.pair_rules.proofs.AllOf.{all_append}

-- ── the shared record ──

pub record SlotsFit (s : Shared) : Type 0 where
  pub slots-low : 1 ≤ s.slots
  pub slots-high : s.slots ≤ 65536
  pub reserves-high : s.reserves.intercom + s.reserves.passengers ≤ s.slots

pub record SharedFits (s : Shared) : Type 0 where
  pub slots-low : 1 ≤ s.slots
  pub slots-high : s.slots ≤ 65536
  pub reserves-high : s.reserves.intercom + s.reserves.passengers ≤ s.slots
  pub freed-high : s.store.freed < s.slots
  pub used_high : s.store.used ≤ s.slots

pub slots-fit : (s : Shared) → all (slots_conditions s) ≡ true → SlotsFit s
slots-fit s w =
    let at : (i : ℕ) → get_or (slots_conditions s) i true ≡ true = all-at (slots_conditions s) w in
    record {
      slots-low = leb-true _ _ (at 0);
      slots-high = leb-true _ _ (at 1);
      reserves-high = leb-true _ _ (at 2);
    }

pub shared-fits : (s : Shared) → all (shared_conditions s) ≡ true → SharedFits s
shared-fits s w =
    let at : (i : ℕ) → get_or (shared_conditions s) i true ≡ true = all-at (shared_conditions s) w in
    record {
      slots-low = leb-true _ _ (at 0);
      slots-high = leb-true _ _ (at 1);
      reserves-high = leb-true _ _ (at 2);
      freed-high = ltb-true _ _ (at 3);
      used_high = leb-true _ _ (at 4);
    }

pub shared-passes : (s : Shared) → SharedFits s → all (shared_conditions s) ≡ true
shared-passes s f =
    simp (
      le-leb _ _ f.slots-low,
      le-leb _ _ f.slots-high,
      le-leb _ _ f.reserves-high,
      lt-ltb _ _ f.freed-high,
      le-leb _ _ f.used_high,
    )

-- ── a queue ──

pub record QueueFits (slots : ℕ) (s : State) : Type 0 where
  pub target-low : 1000 ≤ s.settings.target.0
  pub target-high : s.settings.target.0 ≤ 100000
  pub buffer-low : 1 ≤ s.settings.buffer.0
  pub buffer-high : s.settings.buffer.0 ≤ 16777216
  pub last-high : s.last.0 ≤ s.clock.0
  pub clock-high : s.clock.0 ≤ latest
  pub prob-high : s.pie.prob.0 ≤ whole
  pub old-high : s.pie.old.0 ≤ longest
  pub allowance-high : s.pie.allowance.0 ≤ full_allowance
  pub accumulated-high : s.pie.accumulated.0 < most_accumulated
  pub average-high : s.pie.rate.average.0 ≤ longest
  pub head-high : s.ends.head < slots
  pub tail-high : s.ends.tail < slots
  pub count-high : s.backlog.count ≤ slots
  pub bytes_low : s.backlog.count ≤ s.backlog.bytes.0
  pub bytes_high : s.backlog.bytes.0 ≤ largest * s.backlog.count
  pub bytes_fit : s.backlog.bytes.0 ≤ s.settings.buffer.0
  pub start-high : s.pie.rate.start.0 ≤ s.clock.0
  pub counted-high : s.pie.rate.counted.0 < threshold
  -- a measurement that does not run has no start and nothing counted
  pub idle-start : s.pie.rate.measuring || eqb s.pie.rate.start.0 0 ≡ true
  pub idle-counted : s.pie.rate.measuring || eqb s.pie.rate.counted.0 0 ≡ true
  -- none runs on an empty queue
  pub busy : not (s.pie.rate.measuring && eqb s.backlog.count 0) ≡ true
  pub total-high : total s.verdicts ≤ most_verdicts

pub queue-fits : (slots : ℕ) (s : State) → all (queue_conditions slots s) ≡ true → QueueFits slots s
queue-fits slots s w =
    let tests = queue_conditions slots s in
    let at : (i : ℕ) → get_or tests i true ≡ true = all-at tests w in
    record {
      target-low = leb-true _ _ (at 0);
      target-high = leb-true _ _ (at 1);
      buffer-low = leb-true _ _ (at 2);
      buffer-high = leb-true _ _ (at 3);
      last-high = leb-true _ _ (at 4);
      clock-high = leb-true _ _ (at 5);
      prob-high = leb-true _ _ (at 6);
      old-high = leb-true _ _ (at 7);
      allowance-high = leb-true _ _ (at 8);
      accumulated-high = ltb-true _ _ (at 9);
      average-high = leb-true _ _ (at 10);
      head-high = ltb-true _ _ (at 11);
      tail-high = ltb-true _ _ (at 12);
      count-high = leb-true _ _ (at 13);
      bytes_low = leb-true _ _ (at 14);
      bytes_high = leb-true _ _ (at 15);
      bytes_fit = leb-true _ _ (at 16);
      start-high = leb-true _ _ (at 17);
      counted-high = ltb-true _ _ (at 18);
      idle-start = at 19;
      idle-counted = at 20;
      busy = at 21;
      total-high = leb-true _ _ (at 22);
    }

pub queue-passes : (slots : ℕ) (s : State) → QueueFits slots s → all (queue_conditions slots s) ≡ true
queue-passes slots s f =
    simp (
      le-leb _ _ f.target-low,
      le-leb _ _ f.target-high,
      le-leb _ _ f.buffer-low,
      le-leb _ _ f.buffer-high,
      le-leb _ _ f.last-high,
      le-leb _ _ f.clock-high,
      le-leb _ _ f.prob-high,
      le-leb _ _ f.old-high,
      le-leb _ _ f.allowance-high,
      lt-ltb _ _ f.accumulated-high,
      le-leb _ _ f.average-high,
      lt-ltb _ _ f.head-high,
      lt-ltb _ _ f.tail-high,
      le-leb _ _ f.count-high,
      le-leb _ _ f.bytes_low,
      le-leb _ _ f.bytes_high,
      le-leb _ _ f.bytes_fit,
      le-leb _ _ f.start-high,
      lt-ltb _ _ f.counted-high,
      f.idle-start,
      f.idle-counted,
      f.busy,
      le-leb _ _ f.total-high,
    )

-- ── both ──

pub record BothFit (p : Pair) : Type 0 where
  pub common-high : common_use p ≤ common_slots p.shared
  pub used-is : p.intercom.backlog.count + p.passengers.backlog.count + p.shared.store.spare ≡ p.shared.store.used

pub both-fit : (p : Pair) → all (both_conditions p) ≡ true → BothFit p
both-fit p w =
    let at : (i : ℕ) → get_or (both_conditions p) i true ≡ true = all-at (both_conditions p) w in
    record { common-high = leb-true _ _ (at 0); used-is = eqb-true _ _ (at 1) }

pub both-passes : (p : Pair) → BothFit p → all (both_conditions p) ≡ true
both-passes p f = simp (le-leb _ _ f.common-high, eq-eqb _ _ f.used-is)

-- ── all three records ──

pub parts : (p : Pair) →
    well_formed p
    ≡ (all (shared_conditions p.shared)
    && (all (queue_conditions p.shared.slots p.intercom)
    && (all (queue_conditions p.shared.slots p.passengers) && all (both_conditions p))))
unfolding well_formed
parts p =
    let a = queue_conditions p.shared.slots p.intercom in
    let b = queue_conditions p.shared.slots p.passengers in
    let c = both_conditions p in
    all_append (shared_conditions p.shared) (a ++ b ++ c)
    ∙ ap (λ t. all (shared_conditions p.shared) && t) (all_append a (b ++ c) ∙ ap (λ t. all a && t) (all_append b c))

-- each part passes
pub record Passes (p : Pair) : Type 0 where
  pub shared : all (shared_conditions p.shared) ≡ true
  pub intercom : all (queue_conditions p.shared.slots p.intercom) ≡ true
  pub passengers : all (queue_conditions p.shared.slots p.passengers) ≡ true
  pub both : all (both_conditions p) ≡ true

pub passes : (p : Pair) → well_formed p ≡ true → Passes p
passes p w =
    let s = all (shared_conditions p.shared) in
    let a = all (queue_conditions p.shared.slots p.intercom) in
    let b = all (queue_conditions p.shared.slots p.passengers) in
    let c = all (both_conditions p) in
    let e = sym (parts p) ∙ w in
    let rest = and_right s (a && (b && c)) e in
    let last = and_right a (b && c) rest in
    record {
      shared = and_left s (a && (b && c)) e;
      intercom = and_left a (b && c) rest;
      passengers = and_left b c last;
      both = and_right b c last;
    }

pub all_pass : (p : Pair) → Passes p → well_formed p ≡ true
all_pass p f = parts p ∙ rw (f.shared, f.intercom, f.passengers, f.both)

-- where one does not, the records are not well formed
pub part-fails : (p : Pair) (b q : Bool) → (Passes p → q ≡ true) → b ≡ q → not b ≡ true → well_formed p ≡ false
part-fails p b q h e f = sym (false_of (well_formed p) (λ w. false≢true (sym (not-true b f) ∙ e ∙ h (passes p w))))

pub record Facts (p : Pair) : Type 0 where
  pub shared : SharedFits p.shared
  pub intercom : QueueFits p.shared.slots p.intercom
  pub passengers : QueueFits p.shared.slots p.passengers
  pub both : BothFit p

pub facts : (p : Pair) → well_formed p ≡ true → Facts p
facts p w =
    let f = passes p w in
    record {
      shared = shared-fits p.shared f.shared;
      intercom = queue-fits p.shared.slots p.intercom f.intercom;
      passengers = queue-fits p.shared.slots p.passengers f.passengers;
      both = both-fit p f.both;
    }

pub well-formed : (p : Pair) → Facts p → well_formed p ≡ true
well-formed p f =
    all_pass p (record {
      shared = shared-passes p.shared f.shared;
      intercom = queue-passes p.shared.slots p.intercom f.intercom;
      passengers = queue-passes p.shared.slots p.passengers f.passengers;
      both = both-passes p f.both;
    })
