-- `arrival`: refusals 2 and 3, and where the counts are full 4, 7 and 8; the rest is the call's on well-formed records.
use borrow.Author.Tests.{eqb-false}
use mathlib.Core.Path.{◌≡◌, refl, sym, ◌∙◌}
use mathlib.Core.Bool.{Bool, true}
use mathlib.Core.List.{List}
use mathlib.Core.Logic.{◌≢◌}
use Prim.Native.Nat.{◌≤◌, ℕ}
use native.Mathlib.Omega.{arith}
use Rattle.std.proofs.lemmas.Result.{err_from_is_err_and}
use Rattle.pie.specs.Constants.{most_verdicts}
use Rattle.pie.specs.Verdicts.{total}
use Rattle.pair_rules.specs.WellFormed.{well_formed}
use Rattle.pair_rules.proofs.Symmetry.{well-formed-seen}
use Rattle.pair_rules.proofs.WhenAccepted.{known}
use Rattle.pair_words.specs.Words.{pair_of, shared_of, state_of, which_of}
use Rattle.pair_steps.proofs.Checks.{passes, refuses}
use Rattle.pair_steps.proofs.Replies.{arrival-counts, arrival-late, arrival-malformed, arrival-size, arrival-tables}
use Rattle.pair_c.proofs.arrival.Goals as goal

counted : (second : Bool) (sh ow ot : List ℕ) → well_formed (pair_of second sh ow ot) ≡ true → total (state_of ow).verdicts ≤ most_verdicts
counted second sh ow ot f =
    let w = which_of second in
    let s = shared_of sh in
    let o = state_of ow in
    let t = state_of ot in
    (known w s o t (sym (well-formed-seen w s o t) ∙ f)).own.total-high

pub returns-then-not-records_fit : goal.returns-then-not-records_fit
returns-then-not-records_fit c =
    let a = c.args in
    let p = pair_of a.second a.shared.now a.own.now a.other.now in
    rw (arrival-malformed p (which_of a.second) a.handles.now a.sizes.now a.clock a.packet.size a.ecn a.u
    (sym c.records_fit.ensures.value ∙ c.if-not-records_fit.true)) (refl, refl, refl, refl, refl)

pub returns-in_err-check_tables : goal.returns-in_err-check_tables
returns-in_err-check_tables c =
    let a = c.args in
    let p = err_from_is_err_and c.from_residual.result c.from_residual.ensures.1 in
    let e = refuses _ _ _ c.in_err-check_tables.ensures in
    rw (
      p.1,
      p.2,
      e.1,
      arrival-tables (which_of a.second) (shared_of a.shared.now) (state_of a.own.now) (state_of a.other.now)
          a.handles.now a.sizes.now a.clock a.packet.size a.ecn a.u
          (sym c.records_fit.ensures.value ∙ c.if-not-records_fit.false) e.0,
    ) (refl, refl, refl, refl, refl)

pub counts_full-requires : goal.counts_full-requires
unfolding state_of
counts_full-requires c =
    rw c.counts_at.ensures (counted c.args.second c.args.shared.now c.args.own.now c.args.other.now
    (sym c.records_fit.ensures.value ∙ c.if-not-records_fit.false))

pub returns-in_err-check_clock : goal.returns-in_err-check_clock
returns-in_err-check_clock c =
    let a = c.args in
    let r = c.from_residual-in_err-check_clock in
    let p = err_from_is_err_and r.result r.ensures.1 in
    let e = refuses _ _ _ c.in_err-check_clock.ensures in
    rw (
      p.1,
      p.2,
      e.1,
      arrival-late (shared_of a.shared.now) (state_of a.own.now) (state_of a.other.now) a.handles.now a.sizes.now
          a.clock a.packet.size a.ecn a.u (passes _ _ _ c.in_ok-check_tables.ensures) (which_of a.second)
          (sym c.records_fit.ensures.value ∙ c.if-not-records_fit.false) e.0,
    ) (refl, refl, refl, refl, refl)

pub returns-in_err-check_size : goal.returns-in_err-check_size
returns-in_err-check_size c =
    let a = c.args in
    let r = c.from_residual-in_err-check_size in
    let p = err_from_is_err_and r.result r.ensures.1 in
    let e = refuses _ _ _ c.in_err-check_size.ensures in
    rw (
      p.1,
      p.2,
      e.1,
      arrival-size (shared_of a.shared.now) (state_of a.own.now) (state_of a.other.now) a.handles.now a.sizes.now
          a.clock a.packet.size a.ecn a.u (passes _ _ _ c.in_ok-check_tables.ensures) (which_of a.second)
          (sym c.records_fit.ensures.value ∙ c.if-not-records_fit.false) (passes _ _ _ c.in_ok-check_clock.ensures) e.0,
    )
    (refl, refl, refl, refl, refl)

pub returns-then-counts_full : goal.returns-then-counts_full
unfolding state_of
returns-then-counts_full c =
    let a = c.args in
    let full = rw c.counts_at.ensures at (sym c.counts_full.ensures ∙ c.if-counts_full.true) in
    rw (arrival-counts (shared_of a.shared.now) (state_of a.own.now) (state_of a.other.now) a.handles.now a.sizes.now
    a.clock a.packet.size a.ecn a.u (passes _ _ _ c.in_ok-check_tables.ensures) (which_of a.second)
    (sym c.records_fit.ensures.value ∙ c.if-not-records_fit.false) (passes _ _ _ c.in_ok-check_clock.ensures)
    (passes _ _ _ c.in_ok-check_size.ensures) full) (refl, refl, refl, refl, refl)

pub arrival-requires-clause-room : goal.arrival-requires-clause-room
unfolding state_of
arrival-requires-clause-room c =
    let n = total (state_of c.args.own.now).verdicts in
    let low : n ≤ most_verdicts = counted c.args.second c.args.shared.now c.args.own.now c.args.other.now
    (sym c.records_fit.ensures.value ∙ c.if-not-records_fit.false) in
    let full = rw c.counts_at.ensures at (sym c.counts_full.ensures ∙ c.if-counts_full.false) in
    let room : n ≢ most_verdicts = eqb-false n most_verdicts full in
    omega (arith, low, room)
