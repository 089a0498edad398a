-- The verdict and the accumulated probability, by the tests of rules 1 to 5.
use mathlib.Core.Path.{◌≡◌, refl, ap, sym, ◌∙◌}
use mathlib.Core.Bool.{Bool, true, false, cond, ◌&&◌, ◌||◌}
use mathlib.Core.List.{List}
use Prim.Native.Nat.{ℕ, ◌+◌, ◌-◌, ◌≤◌}
use native.Mathlib.Omega.{arith}
use lib.Dec.{eqb, leb, ltb}
use lib.ListN.{get_or}
use Rattle.laws.proofs.Choice.{either}
use Rattle.units.specs.Kinds.{none, prob}
use Rattle.units.specs.declared.Prob.{Prob}
use Rattle.pie.specs.DropDecision.{accumulated_after, drawn, drop_decision, early, early_verdict, marks, spared, sum_is_high, sum_is_low, sum_of}
use Rattle.pie.specs.Verdicts.{is_early}
use Rattle.pie.specs.declared.Pie.{Pie}
use Rattle.pie.specs.declared.Verdict.{Verdict}
use Rattle.pie.specs.declared.Verdict.TheVariants.{DroppedBytes, DroppedEarly, DroppedSlots, Enqueued, Marked}
use Rattle.pair_rules.specs.Facing.{facing}
use Rattle.pair_rules.specs.Queues.{common_slots, paired}
use Rattle.pair_rules.specs.WellFormed.{well_formed}
use Rattle.pair_rules.specs.declared.Shared.{Shared}
use Rattle.pair_rules.specs.declared.Which.{Which}
use Rattle.pair_rules.specs.declared.Which.TheVariants.{Intercom, Passengers}
use Rattle.pair_rules.proofs.Facts.{QueueFits, facts}
use Rattle.pair_rules.specs.Arrival.{arrived_pie, verdict_of}
use Rattle.pair_rules.proofs.Seen.{verdict-seen}
use Rattle.pie_words.specs.Words.{pie_at}
use Rattle.pair_words.specs.Words.{records_of, shared_of, state_of}

-- rule 2
abbrev pub full : Shared → (own other : ℕ) → Bool
full s own other =
    leb s.reserves.intercom own && eqb ((own - s.reserves.intercom) + (other - s.reserves.passengers)) (common_slots s)

-- the test of rule 2 on the shared record that the words hold
pub found-full : (w : Which) (sh : List ℕ) (f : Shared) (own other : ℕ) (b : Bool) → f ≡ facing w (shared_of sh) →
    b ≡ full f own other → b ≡ full (facing w (shared_of sh)) own other
found-full w sh f own other b ef e = e ∙ ap (λ x. full x own other) ef

pub facing-bounds : (w : Which) (sh : List ℕ) (f : Shared) → f ≡ facing w (shared_of sh) →
    get_or sh 1 0 + get_or sh 2 0 ≤ get_or sh 0 0 → get_or sh 0 0 ≤ 65536 →
    (f.reserves.intercom + f.reserves.passengers ≤ f.slots) × (f.slots ≤ 65536)
unfolding shared_of
facing-bounds Intercom sh f ef h k = rw ef (h, k)
facing-bounds Passengers sh f ef h k = rw ef (omega (arith, h), k)

-- ── what is known of the words of well-formed records ──

pub record Numbers (sh ow ot : List ℕ) : Type 0 where
  pub reserves-high : get_or sh 1 0 + get_or sh 2 0 ≤ get_or sh 0 0
  pub slots-high : get_or sh 0 0 ≤ 65536
  pub own-count : get_or ow 12 0 ≤ 65536
  pub other-count : get_or ot 12 0 ≤ 65536
  pub own : QueueFits (get_or sh 0 0) (state_of ow)

pub numbers : (w : Which) (sh ow ot : List ℕ) → well_formed (records_of w sh ow ot) ≡ true → Numbers sh ow ot
unfolding shared_of state_of
numbers Intercom sh ow ot e =
    let f = facts (records_of Intercom sh ow ot) e in
    record {
      reserves-high = f.shared.reserves-high;
      slots-high = f.shared.slots-high;
      own-count = omega (arith, f.intercom.count-high, f.shared.slots-high);
      other-count = omega (arith, f.passengers.count-high, f.shared.slots-high);
      own = f.intercom;
    }
numbers Passengers sh ow ot e =
    let f = facts (records_of Passengers sh ow ot) e in
    record {
      reserves-high = f.shared.reserves-high;
      slots-high = f.shared.slots-high;
      own-count = omega (arith, f.passengers.count-high, f.shared.slots-high);
      other-count = omega (arith, f.intercom.count-high, f.shared.slots-high);
      own = f.passengers;
    }

-- ── the rules in turn ──

-- past rule 5 every verdict but an early one leaves the sum
drawn-sum : (pie : Pie) (target bytes : ℕ) (ecn : Bool) (u : ℕ) → spared pie target bytes ≡ false →
    cond (is_early (drawn pie ecn u)) none (sum_of pie) ≡ accumulated_after pie target bytes (drawn pie ecn u)
unfolding drawn accumulated_after
drawn-sum pie target bytes ecn u e =
    either P (sum_is_low (sum_of pie)) Enqueued _ kept
    (either P (sum_is_high (sum_of pie) || early pie.prob.0 u) (early_verdict pie.prob.0 ecn) Enqueued
    (either P (marks pie.prob.0 ecn) Marked DroppedEarly refl refl)
    kept)
  where
    P : Verdict → Type 0
    P v = cond (is_early v) none (sum_of pie) ≡ accumulated_after pie target bytes v

    kept : P Enqueued
    kept = rw e

module _ (w : Which) (sh ow ot : List ℕ) (size : ℕ) (ecn : Bool) (u : ℕ) where
  -- a verdict by the rules, and the accumulated probability after it
  abbrev pub Ruled : Verdict → Prob → Type 0
  Ruled v a =
      (v ≡ verdict_of (records_of w sh ow ot) w size ecn u) × (a ≡ (arrived_pie (state_of ow) v).accumulated)

  abbrev seen : Shared
  seen = facing w (shared_of sh)

  found : (v : Verdict) → verdict_of (paired Intercom seen (state_of ow) (state_of ot)) Intercom size ecn u ≡ v →
      v ≡ verdict_of (records_of w sh ow ot) w size ecn u
  found v e = sym (verdict-seen w (shared_of sh) (state_of ow) (state_of ot) size ecn u ∙ e)

  -- rule 1
  pub bytes-rule : (v : Verdict) (a : Prob) → v ≡ DroppedBytes → a ≡ prob (get_or ow 7 0) →
      ltb (get_or ow 1 0) (get_or ow 13 0 + size) ≡ true → Ruled v a
  unfolding state_of verdict_of accumulated_after
  bytes-rule v a ev ea e = rw ev (found DroppedBytes (rw e), ea)

  module _ (fit : ltb (get_or ow 1 0) (get_or ow 13 0 + size) ≡ false) where
    -- rule 2
    pub slots-rule : (v : Verdict) (a : Prob) → v ≡ DroppedSlots → a ≡ prob (get_or ow 7 0) →
        full seen (get_or ow 12 0) (get_or ot 12 0) ≡ true → Ruled v a
    unfolding state_of verdict_of accumulated_after
    slots-rule v a ev ea e = rw ev (found DroppedSlots (rw (fit, e)), ea)

    module _ (free : full seen (get_or ow 12 0) (get_or ot 12 0) ≡ false) where
      -- rules 3 to 5
      pub spared-rule : (v : Verdict) (a : Prob) → v ≡ Enqueued → a ≡ prob (get_or ow 7 0) →
          spared (pie_at ow 4) (get_or ow 0 0) (get_or ow 13 0) ≡ true → Ruled v a
      unfolding state_of verdict_of drop_decision accumulated_after
      spared-rule v a ev ea e = rw ev (found Enqueued (rw (fit, free, e)), rw e ea)

      -- rules 6 and 7
      pub drawn-rule : (v : Verdict) (a : Prob) → v ≡ drawn (pie_at ow 4) ecn u → a ≡ prob (cond (is_early v) none (sum_of (pie_at ow 4))) →
          spared (pie_at ow 4) (get_or ow 0 0) (get_or ow 13 0) ≡ false → Ruled v a
      unfolding state_of verdict_of drop_decision
      drawn-rule v a ev ea e = (
        ev ∙ found (drawn (pie_at ow 4) ecn u) (rw (fit, free, e)),
        ea ∙ rw ev (ap prob (drawn-sum (pie_at ow 4) (get_or ow 0 0) (get_or ow 13 0) ecn u e)),
      )
