-- `Flow::fits`: where a part fails a condition fails, and where all parts pass every condition passes.
use borrow.Author.Tests.{le-leb, le-ltb, leb-false, lt-leb, lt-ltb, ltb-false}
use mathlib.Core.Path.{◌≡◌, ap, sym, ◌∙◌}
use mathlib.Core.Bool.{Bool, true, false, not, ◌&&◌, ◌||◌, false≢true}
use mathlib.Core.List.{List, [], ◌∷◌, foldl}
use Prim.Native.Nat.{ℕ, ◌*◌, ◌≤◌}
use native.Mathlib.Omega.{arith}
use lib.Dec.{eqb, leb, ltb}
use Rattle.units.specs.Kinds.{whole}
use Rattle.pie.specs.Constants.{full_allowance, largest, longest, most_accumulated, threshold}
use Rattle.pie.specs.declared.Pie.{Pie}
use Rattle.pie.specs.declared.Rate.{Rate}
use Rattle.laws.specs.Tests.{all}
use Rattle.laws.proofs.TestLists.{false_of, first-not, none_from}
use Rattle.fq_state.specs.Flow.{pie_of, rate_of}
use Rattle.fq_state.specs.WellFormed.{flow_conditions}
use Rattle.fq_state.specs.declared.Common.{Common}
use Rattle.fq_state.specs.declared.Flow.{Flow}
use Rattle.fq_state.proofs.Facts.{FlowFits, common-fits, flow-fits}
use Rattle.fq_state.proofs.Flow.fits.Goals as goal

-- the first test, and those behind it: each is true of a flow that is wrong
abbrev first : Flow → Bool
first f = ltb whole f.prob

abbrev wrongs : Common → Flow → List Bool
wrongs c f =
    ltb longest f.old
    ∷ ltb full_allowance f.allowance
    ∷ leb most_accumulated f.accumulated
    ∷ ltb longest f.average
    ∷ leb c.settings.slots f.head
    ∷ leb c.settings.slots f.tail
    ∷ ltb c.settings.slots f.count
    ∷ ltb f.bytes f.count
    ∷ ltb c.settings.buffer.0 f.bytes
    ∷ []

-- what `measurement_fits` tests
abbrev measured : Rate → (clock count : ℕ) → Bool
measured rate clock count =
    leb rate.start.0 clock && ltb rate.counted.0 threshold
    && (rate.measuring || eqb rate.start.0 0) && (rate.measuring || eqb rate.counted.0 0)
    && not (rate.measuring && eqb count 0)

module _ (c : Common) (f : Flow) where
  none-wrong : FlowFits c f → foldl ◌||◌ (first f) (wrongs c f) ≡ false
  none-wrong k =
      rw (
        le-ltb whole f.prob k.prob-high,
        le-ltb longest f.old k.old-high,
        le-ltb full_allowance f.allowance k.allowance-high,
        lt-leb most_accumulated f.accumulated k.accumulated-high,
        le-ltb longest f.average k.average-high,
        lt-leb c.settings.slots f.head k.head-high,
        lt-leb c.settings.slots f.tail k.tail-high,
        le-ltb c.settings.slots f.count k.count-high,
        le-ltb f.bytes f.count k.bytes_low,
        le-ltb c.settings.buffer.0 f.bytes k.bytes_fit,
      )

  one-wrong : foldl ◌||◌ (first f) (wrongs c f) ≡ true → false ≡ all (flow_conditions c f)
  one-wrong e = false_of (all (flow_conditions c f)) (λ w. false≢true (sym (none-wrong (flow-fits c f w)) ∙ e))

  few : foldl ◌||◌ (first f) (wrongs c f) ≡ false → f.count ≤ c.settings.slots
  few none = ltb-false c.settings.slots f.count (none_from (first f) (wrongs c f) none 6)

  -- where none is, the measurement decides
  none-decides : (m : Bool) (pie : Pie) → foldl ◌||◌ (first f) (wrongs c f) ≡ false → f.bytes ≤ largest * f.count → pie ≡ pie_of f →
      m ≡ measured pie.rate c.clock.0 f.count → m ≡ all (flow_conditions c f)
  none-decides m pie none h e k =
      let told : m ≡ measured (rate_of f) c.clock.0 f.count = k ∙ ap (λ (p : Pie). measured p.rate c.clock.0 f.count) e in
      let b = none_from (first f) (wrongs c f) none in
      simp (
        le-leb f.prob whole (ltb-false _ _ (first-not (first f) (wrongs c f) none)),
        le-leb f.old longest (ltb-false _ _ (b 0)),
        le-leb f.allowance full_allowance (ltb-false _ _ (b 1)),
        lt-ltb f.accumulated most_accumulated (leb-false _ _ (b 2)),
        le-leb f.average longest (ltb-false _ _ (b 3)),
        lt-ltb f.head c.settings.slots (leb-false _ _ (b 4)),
        lt-ltb f.tail c.settings.slots (leb-false _ _ (b 5)),
        le-leb f.count c.settings.slots (few none),
        le-leb f.count f.bytes (ltb-false _ _ (b 7)),
        le-leb f.bytes c.settings.buffer.0 (ltb-false _ _ (b 8)),
        le-leb f.bytes (largest * f.count) h,
      ) told

pub returns-then-wrong : goal.returns-then-wrong
returns-then-wrong c = one-wrong c.args.c c.args.self c.if-wrong.true

pub overflow_mul-self : goal.overflow_mul-self
overflow_mul-self c =
    omega (arith, (common-fits c.args.c c.requires).settings.slots-high, few c.args.c c.args.self c.if-wrong.false)

pub returns-then-self : goal.returns-then-self
returns-then-self c = false_of _ (λ w. let k = flow-fits c.args.c c.args.self w in omega arith)

pub returns : goal.returns
returns c =
    none-decides c.args.c c.args.self c.measurement_fits.result c.pie-pie.result
    c.if-wrong.false
    c.if-self.false
    c.pie-pie.ensures
    c.measurement_fits.ensures
