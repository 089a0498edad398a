-- `refusal_of`: the tests in the order of the refusals.
use borrow.Author.Tests.{eqb-false, eqb-true, le-ltb, lt-ltb}
use mathlib.Core.Path.{◌≡◌, ap, sym, ◌∙◌}
use mathlib.Core.Bool.{Bool, true, false≢true, not, ◌&&◌}
use mathlib.Core.List.{List}
use mathlib.Core.Logic.{◌≢◌}
use Prim.Native.Nat.{ℕ, ◌+◌, ◌≤◌}
use native.Mathlib.Omega.{arith}
use lib.Dec.{eqb}
use lib.ListN.{get_or, length}
use Rattle.laws.proofs.Tests.{and_left, and_right}
use Rattle.pie.specs.Constants.{most_verdicts}
use Rattle.pie.specs.Verdicts.{total}
use Rattle.pair_rules.specs.WellFormed.{well_formed}
use Rattle.pair_rules.proofs.Symmetry.{well-formed-seen}
use Rattle.pair_rules.proofs.WhenAccepted.{known}
use Rattle.pair_words.specs.Words.{pair_of, shared_of, state_of, which_of}
use Rattle.pair_steps.proofs.Replies.{arrival-counts, arrival-late, arrival-size}
use Rattle.pair_burst.proofs.Refused.{arrival-left, malformed-left, never, tables-left, tick-kind}
use Rattle.pair_burst.proofs.one.refusal_of.Goals as goal

counted : (second : Bool) (sh ow ot : List ℕ) → well_formed (pair_of second sh ow ot) ≡ true → total (state_of ow).verdicts ≤ most_verdicts
counted second sh ow ot f =
    let w = which_of second in
    let s = shared_of sh in
    let o = state_of ow in
    let t = state_of ot in
    (known w s o t (sym (well-formed-seen w s o t) ∙ f)).own.total-high

-- the tables fit
tables : (h z n : ℕ) → eqb h n && eqb z n ≡ true → (h ≡ n) × (z ≡ n)
tables h z n e = (eqb-true h n (and_left (eqb h n) (eqb z n) e), eqb-true z n (and_right (eqb h n) (eqb z n) e))

pub returns-then-not-fit-clause-fitting : goal.returns-then-not-fit-clause-fitting
returns-then-not-fit-clause-fitting c e = absurd (false≢true (rw c.refused.ensures at e))

pub returns-then-not-fit-clause-stays : goal.returns-then-not-fit-clause-stays
returns-then-not-fit-clause-stays c e =
    rw c.refused.ensures (
    malformed-left c.args.second c.args.shared.now c.args.own.now c.args.other.now c.args.handles.now c.args.sizes.now
    c.args.calls.now c.args.at c.args.kind (sym c.records_fit-fit.ensures.value ∙ c.if-not-fit.true)
    )

pub returns-then-ticks-clause-fitting : goal.returns-then-ticks-clause-fitting
returns-then-ticks-clause-fitting c e =
    let long = c.records_fit-fit.ensures.shared_len c.if-not-fit.false in
    let kind = tick-kind c.args.kind (lt-ltb _ _ c.if-ticks.true) in (
      long.0,
      long.1,
      sym c.records_fit-fit.ensures.value ∙ c.if-not-fit.false,
      λ l. never kind.0 l,
      λ l. never kind.1 l,
    )

pub returns-then-ticks-clause-stays : goal.returns-then-ticks-clause-stays
returns-then-ticks-clause-stays c e = absurd (false≢true (sym e))

pub returns-then-not-tables_fit-clause-fitting : goal.returns-then-not-tables_fit-clause-fitting
returns-then-not-tables_fit-clause-fitting c e = absurd (false≢true (rw c.refused-then-not-tables_fit.ensures at e))

pub returns-then-not-tables_fit-clause-stays : goal.returns-then-not-tables_fit-clause-stays
unfolding shared_of
returns-then-not-tables_fit-clause-stays c e =
    rw c.refused-then-not-tables_fit.ensures (
    tables-left c.args.second c.args.shared.now c.args.own.now c.args.other.now c.args.handles.now c.args.sizes.now
    c.args.calls.now c.args.at c.args.kind (le-ltb _ _ c.if-ticks.false)
    (sym c.records_fit-fit.ensures.value ∙ c.if-not-fit.false) (ap not c.if-not-tables_fit.true)
    )

pub returns-then-not-arrives-clause-fitting : goal.returns-then-not-arrives-clause-fitting
unfolding shared_of
returns-then-not-arrives-clause-fitting c e =
    let long = c.records_fit-fit.ensures.shared_len c.if-not-fit.false in (
      long.0,
      long.1,
      sym c.records_fit-fit.ensures.value ∙ c.if-not-fit.false,
      λ l. tables (length c.args.handles.now) (length c.args.sizes.now) (shared_of c.args.shared.now).slots c.if-not-tables_fit.false,
      λ l. never (le-ltb _ _ c.if-not-arrives.true) l,
    )

pub returns-then-not-arrives-clause-stays : goal.returns-then-not-arrives-clause-stays
returns-then-not-arrives-clause-stays c e = absurd (false≢true (sym e))

pub counts_full-full-requires : goal.counts_full-full-requires
unfolding state_of
counts_full-full-requires c =
    rw c.counts_at.ensures (counted c.args.second c.args.shared.now c.args.own.now c.args.other.now
    (sym c.records_fit-fit.ensures.value ∙ c.if-not-fit.false))

pub returns-then-not-full-clause-fitting : goal.returns-then-not-full-clause-fitting
unfolding shared_of state_of
returns-then-not-full-clause-fitting c e =
    let long = c.records_fit-fit.ensures.shared_len c.if-not-fit.false in
    let n = total (state_of c.args.own.now).verdicts in
    let low : n ≤ most_verdicts = counted c.args.second c.args.shared.now c.args.own.now c.args.other.now
    (sym c.records_fit-fit.ensures.value ∙ c.if-not-fit.false) in
    let room : n ≢ most_verdicts = eqb-false n most_verdicts (rw c.counts_at.ensures at (sym c.counts_full-full.ensures ∙ c.if-not-full.true)) in (
      long.0,
      long.1,
      sym c.records_fit-fit.ensures.value ∙ c.if-not-fit.false,
      λ l. tables (length c.args.handles.now) (length c.args.sizes.now) (shared_of c.args.shared.now).slots c.if-not-tables_fit.false,
      λ l. omega (arith, low, room),
    )

pub returns-then-not-full-clause-stays : goal.returns-then-not-full-clause-stays
returns-then-not-full-clause-stays c e = absurd (false≢true (sym e))

pub returns-then-wrong_clock-clause-fitting : goal.returns-then-wrong_clock-clause-fitting
returns-then-wrong_clock-clause-fitting c e = absurd (false≢true (rw c.refused-then-wrong_clock.ensures at e))

pub returns-then-wrong_clock-clause-stays : goal.returns-then-wrong_clock-clause-stays
unfolding shared_of state_of
returns-then-wrong_clock-clause-stays c e =
    let a = c.args in
    let clock = c.clock_of-clock in
    let k = a.calls.now in
    rw c.refused-then-wrong_clock.ensures (
    arrival-left a.second a.shared.now a.own.now a.other.now a.handles.now a.sizes.now k a.at a.kind 4 clock.result
    clock.ensures (lt-ltb _ _ c.if-not-arrives.false)
    (arrival-late (shared_of a.shared.now) (state_of a.own.now) (state_of a.other.now) a.handles.now a.sizes.now
    clock.result (get_or k (a.at + 3) 0) (eqb a.kind 1) (get_or k (a.at + 4) 0) (ap not c.if-not-tables_fit.false)
    (which_of a.second) (sym c.records_fit-fit.ensures.value ∙ c.if-not-fit.false) c.if-wrong_clock.true)
    )

pub returns-then-wrong_size-clause-fitting : goal.returns-then-wrong_size-clause-fitting
returns-then-wrong_size-clause-fitting c e = absurd (false≢true (rw c.refused-then-wrong_size.ensures at e))

pub returns-then-wrong_size-clause-stays : goal.returns-then-wrong_size-clause-stays
unfolding shared_of state_of
returns-then-wrong_size-clause-stays c e =
    let a = c.args in
    let clock = c.clock_of-clock in
    let k = a.calls.now in
    rw c.refused-then-wrong_size.ensures (
    arrival-left a.second a.shared.now a.own.now a.other.now a.handles.now a.sizes.now k a.at a.kind 7 clock.result
    clock.ensures (lt-ltb _ _ c.if-not-arrives.false)
    (arrival-size (shared_of a.shared.now) (state_of a.own.now) (state_of a.other.now) a.handles.now a.sizes.now
    clock.result (get_or k (a.at + 3) 0) (eqb a.kind 1) (get_or k (a.at + 4) 0) (ap not c.if-not-tables_fit.false)
    (which_of a.second) (sym c.records_fit-fit.ensures.value ∙ c.if-not-fit.false) c.if-wrong_clock.false
    (rw c.wide-bytes.ensures at c.if-wrong_size.true))
    )

pub returns-clause-fitting : goal.returns-clause-fitting
returns-clause-fitting c e = absurd (false≢true (rw c.refused-2.ensures at e))

pub returns-clause-stays : goal.returns-clause-stays
unfolding shared_of state_of
returns-clause-stays c e =
    let a = c.args in
    let clock = c.clock_of-clock in
    let k = a.calls.now in
    rw c.refused-2.ensures (
    arrival-left a.second a.shared.now a.own.now a.other.now a.handles.now a.sizes.now k a.at a.kind 8 clock.result
    clock.ensures (lt-ltb _ _ c.if-not-arrives.false)
    (arrival-counts (shared_of a.shared.now) (state_of a.own.now) (state_of a.other.now) a.handles.now a.sizes.now
    clock.result (get_or k (a.at + 3) 0) (eqb a.kind 1) (get_or k (a.at + 4) 0) (ap not c.if-not-tables_fit.false)
    (which_of a.second) (sym c.records_fit-fit.ensures.value ∙ c.if-not-fit.false) c.if-wrong_clock.false
    (rw c.wide-bytes.ensures at c.if-wrong_size.false) (rw c.counts_at.ensures at (sym c.counts_full-full.ensures ∙ c.if-not-full.false)))
    )
