-- `parts_fit`: part by part.
use mathlib.Core.Path.{◌≡◌, refl, sym, ◌∙◌}
use mathlib.Core.Bool.{Bool, true, false, ◌&&◌, false≢true}
use mathlib.Core.List.{List}
use Prim.Native.Nat.{ℕ}
use lib.Dec.{eqb, leb}
use Rattle.laws.specs.Tests.{all}
use Rattle.laws.proofs.TestLists.{false_of}
use Rattle.pie.specs.Verdicts.{total}
use Rattle.schedule.specs.WellFormed.{well_listed}
use Rattle.fq_state.specs.State.{State, counts_of, each_bytes}
use Rattle.fq_state.specs.WellFormed.{common_conditions, flows_fit, totals_conditions, well_formed}
use Rattle.fq_words.specs.Words.{state_of}
use Rattle.fq_state.specs.declared.Common.{Common}
use Rattle.fq_state.specs.declared.Flow.{Flow}
use Rattle.fq_state.proofs.Facts.{Passes, passes}
use Rattle.fq_words.proofs.testing.parts_fit.Goals as goal

abbrev same : Common → (count bytes : ℕ) → Bool
same c count bytes =
    eqb count c.backlog.count && eqb bytes c.backlog.bytes.0 && leb c.backlog.bytes.0 c.settings.buffer.0

same-is : (c : Common) (flows : List Flow) (count bytes : ℕ) → count ≡ total (counts_of flows) → bytes ≡ total (each_bytes flows) →
    same c count bytes ≡ all (totals_conditions c flows)
same-is c flows count bytes e f = rw (e, f)

module _ (s : State) where
  -- a part that passes in each well-formed record: where it fails, the record is not well formed
  fails : (b p : Bool) → (Passes s → p ≡ true) → b ≡ p → b ≡ false → false ≡ well_formed s
  fails b p h e f = false_of (well_formed s) (λ w. false≢true (sym f ∙ e ∙ h (passes s w)))

  -- where the other parts pass, the lists decide
  lists-decide : (counts : List ℕ) (b : Bool) → all (common_conditions s.common) ≡ true → flows_fit s.common s.flows ≡ true →
      all (totals_conditions s.common s.flows) ≡ true → counts ≡ counts_of s.flows →
      b ≡ well_listed counts s.schedule → b ≡ well_formed s
  unfolding well_formed
  lists-decide counts b common flows totals e f = rw (common, flows, totals, ← e) f

  never : {A : Type 0} → false ≡ true → A
  never z = absurd (false≢true z)

pub returns-then-not-common_fits-clause-value : goal.returns-then-not-common_fits-clause-value
returns-then-not-common_fits-clause-value c =
    let s = state_of c.args.common c.args.lists c.args.order.now c.args.deficits.now c.args.flows.now in fails s _ _ (λ p. p.common) c.fits-common_fits.ensures c.if-not-common_fits.true

pub returns-then-not-common_fits-clause-counts_after : goal.returns-then-not-common_fits-clause-counts_after
returns-then-not-common_fits-clause-counts_after c =
    let s = state_of c.args.common c.args.lists c.args.order.now c.args.deficits.now c.args.flows.now in λ z. never s z

pub returns-in_default-clause-value : goal.returns-in_default-clause-value
returns-in_default-clause-value c =
    let s = state_of c.args.common c.args.lists c.args.order.now c.args.deficits.now c.args.flows.now in
    fails s _ _ (λ p. p.flows) refl c.in_default.ensures

pub returns-then-not-same-clause-value : goal.returns-then-not-same-clause-value
returns-then-not-same-clause-value c =
    let s = state_of c.args.common c.args.lists c.args.order.now c.args.deficits.now c.args.flows.now in
    let sum = c.in-Some.ensures in
    fails s _ _ (λ p. p.totals) (same-is s.common s.flows _ _ sum.1 sum.2) c.if-not-same.true

pub returns-clause-value : goal.returns-clause-value
returns-clause-value c =
    let s = state_of c.args.common c.args.lists c.args.order.now c.args.deficits.now c.args.flows.now in
    let sum = c.in-Some.ensures in
    lists-decide s _ _
    (sym c.fits-common_fits.ensures ∙ c.if-not-common_fits.false)
    sum.0
    (sym (same-is s.common s.flows _ _ sum.1 sum.2) ∙ c.if-not-same.false)
    sum.3
    c.fits.ensures
