-- `records_fit`: part by part, as the called queue sees the records.
use mathlib.Core.Path.{◌≡◌, ap, refl, sym, ◌∙◌}
use mathlib.Core.Bool.{Bool, true, false, cond, not}
use mathlib.Core.List.{List}
use Prim.Native.Nat.{ℕ}
use Rattle.laws.specs.Tests.{all}
use Rattle.pair_rules.specs.Facing.{facing}
use Rattle.pair_rules.specs.Queues.{paired}
use Rattle.pair_rules.specs.WellFormed.{both_conditions, queue_conditions, shared_conditions, well_formed}
use Rattle.pair_rules.specs.declared.Shared.{Shared}
use Rattle.pair_rules.specs.declared.State.{State}
use Rattle.pair_rules.specs.declared.Which.{Which}
use Rattle.pair_rules.specs.declared.Which.TheVariants.{Intercom, Passengers}
use Rattle.pair_rules.proofs.Facts.{Passes, part-fails, parts, queue-fits, shared-fits}
use Rattle.pair_rules.proofs.Symmetry.{well-formed-seen}
use Rattle.pair_words.specs.Words.{pair_of, shared_of, state_of, which_of}
use Rattle.pair_words.proofs.testing.records_fit.Goals as goal

which-is : (second : Bool) (w : Which) → w ≡ cond second Passengers Intercom → w ≡ which_of second
which-is true w e = e
which-is false w e = e

module _ (second : Bool) (sh ow ot : List ℕ) (w : Which) (s f : Shared) (o t : State) (ew : w ≡ which_of second) (es : s ≡ shared_of sh)
    (ef : f ≡ facing w s) (eo : o ≡ state_of ow) (et : t ≡ state_of ot) where
  same : well_formed (pair_of second sh ow ot) ≡ well_formed (paired Intercom f o t)
  same = rw (ef, es, ew, eo, et) (well-formed-seen (which_of second) (shared_of sh) (state_of ow) (state_of ot))

  fails : (b q : Bool) → (Passes (paired Intercom f o t) → q ≡ true) → b ≡ q → not b ≡ true → false ≡ well_formed (pair_of second sh ow ot)
  fails b q h e n = sym (same ∙ part-fails (paired Intercom f o t) b q h e n)

  decides : (d : Bool) → all (shared_conditions f) ≡ true → all (queue_conditions f.slots o) ≡ true →
      all (queue_conditions f.slots t) ≡ true → d ≡ all (both_conditions (paired Intercom f o t)) →
      d ≡ well_formed (pair_of second sh ow ot)
  decides d hf ho ht e = rw (same, parts (paired Intercom f o t), hf, ho, ht) e

pub returns-then-not-fits-clause-value : goal.returns-then-not-fits-clause-value
returns-then-not-fits-clause-value c =
    fails c.args.second c.args.shared.now c.args.own.now c.args.other.now _ _ _ _ _ (which-is _ _ c.from.ensures)
    c.decode_shared.ensures.0 c.facing-seen.ensures refl refl _ _ (λ h. h.shared) c.fits.ensures
    (ap not c.if-not-fits.true)

pub fits-requires-2 : goal.fits-requires-2
fits-requires-2 c =
    (shared-fits c.facing-seen.result (sym c.fits.ensures ∙ c.if-not-fits.false)).slots-high

pub returns-then-not-fits-2-clause-value : goal.returns-then-not-fits-2-clause-value
returns-then-not-fits-2-clause-value c =
    fails c.args.second c.args.shared.now c.args.own.now c.args.other.now _ _ _ _ _ (which-is _ _ c.from.ensures)
    c.decode_shared.ensures.0 c.facing-seen.ensures refl c.decode-theirs.ensures.0 _ _ (λ h. h.passengers)
    c.fits-2.ensures (ap not c.if-not-fits-2.true)

pub fits-requires-3 : goal.fits-requires-3
fits-requires-3 c =
    (shared-fits c.facing-seen.result (sym c.fits.ensures ∙ c.if-not-fits.false)).slots-high

pub returns-then-not-fits-3-clause-value : goal.returns-then-not-fits-3-clause-value
returns-then-not-fits-3-clause-value c =
    fails c.args.second c.args.shared.now c.args.own.now c.args.other.now _ _ _ _ _ (which-is _ _ c.from.ensures)
    c.decode_shared.ensures.0 c.facing-seen.ensures c.decode-mine.ensures.0 c.decode-theirs.ensures.0 _ _
    (λ h. h.intercom) c.fits-3.ensures (ap not c.if-not-fits-3.true)

pub holds-requires-clause-count_le_slots : goal.holds-requires-clause-count_le_slots
holds-requires-clause-count_le_slots c =
    let slots = c.facing-seen.result.slots in
    let own = queue-fits slots c.decode-mine.result (sym c.fits-3.ensures ∙ c.if-not-fits-3.false) in
    let others = queue-fits slots c.decode-theirs.result (sym c.fits-2.ensures ∙ c.if-not-fits-2.false) in
    (own.count-high, others.count-high)

pub returns-clause-value : goal.returns-clause-value
returns-clause-value c =
    decides c.args.second c.args.shared.now c.args.own.now c.args.other.now _ _ _ _ _ (which-is _ _ c.from.ensures)
    c.decode_shared.ensures.0 c.facing-seen.ensures c.decode-mine.ensures.0 c.decode-theirs.ensures.0 _
    (sym c.fits.ensures ∙ c.if-not-fits.false)
    (sym c.fits-3.ensures ∙ c.if-not-fits-3.false)
    (sym c.fits-2.ensures ∙ c.if-not-fits-2.false)
    c.holds.ensures

pub returns-clause-shared_len : goal.returns-clause-shared_len
returns-clause-shared_len c e = (c.decode_shared.ensures.1, c.decode-mine.ensures.1, c.decode-theirs.ensures.1)
