-- `fresh`: the record as it is made, and the one that is all zero.
use mathlib.Core.Path.{◌≡◌, refl, ap, sym, ◌∙◌}
use mathlib.Core.Bool.{Bool, true, false, ◌&&◌}
use mathlib.Core.List.{List}
use Prim.Native.Nat.{ℕ}
use lib.Dec.{leb}
use lib.ListN.{replicate}
use Rattle.laws.specs.Tests.{all}
use Rattle.pie.specs.Constants.{full_allowance, latest}
use Rattle.schedule.specs.Ring.{empty_lists}
use Rattle.schedule.specs.TwoLists.{zero_deficit}
use Rattle.fq_state.specs.Flow.{empty_flow}
use Rattle.fq_state.specs.Fresh.{empty_common, fresh, fresh_refusal, settings_of}
use Rattle.fq_state.specs.WellFormed.{settings_conditions}
use Rattle.fq_words.specs.Words.{flows_of, state_of}
use Rattle.fq_state.specs.declared.Common.{Common}
use Rattle.fq_state.specs.declared.Settings.{Settings}
use Rattle.fq_words.proofs.making.fresh.Goals as goal

module _ (settings : Settings) (clock : ℕ) (q : Bool) (q-is : q ≡ all (settings_conditions settings))
    (common : Common) (words : List ℕ) where
  tested : (t : Bool) → (q && leb clock latest) ≡ t → (all (settings_conditions settings) && leb clock latest) ≡ t
  tested t e = ap (λ (p : Bool). p && leb clock latest) (sym q-is) ∙ e

  made : (q && leb clock latest) ≡ true → common ≡ empty_common settings clock → flows_of words ≡ replicate 64 (empty_flow full_allowance) →
      (0 ≡ fresh_refusal settings clock)
      × (state_of common empty_lists (replicate 64 0) (replicate 64 zero_deficit) words ≡ fresh settings clock)
  unfolding fresh
  made e ec ef = rw (tested true e, ec, ef) (refl, refl)

  refused : (q && leb clock latest) ≡ false → common ≡ empty_common (settings_of 0 0 0 0) 0 → flows_of words ≡ replicate 64 (empty_flow 0) →
      (1 ≡ fresh_refusal settings clock) × (state_of common empty_lists (replicate 64 0) (replicate 64 0) words ≡ fresh settings clock)
  unfolding fresh
  refused e ec ef = rw (tested false e, ec, ef) (refl, refl)

pub returns-then-fits : goal.returns-then-fits
returns-then-fits c =
    let a = c.args in
    made a.settings a.clock.0 c.in_range.result c.in_range.ensures c.empty.result c.clear.new.flows
    c.if-fits.true
    c.empty.ensures
    c.clear.ensures

pub returns : goal.returns
returns c =
    let a = c.args in
    refused a.settings a.clock.0 c.in_range.result c.in_range.ensures c.empty-2.result c.clear-2.new.flows
    c.if-fits.false
    c.empty-2.ensures
    c.clear-2.ensures
