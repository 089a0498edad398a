-- `departure`: refusals 2 and 3; all others are the call's on well-formed records.
use mathlib.Core.Path.{refl, sym, ◌∙◌}
use Rattle.std.proofs.lemmas.Result.{err_from_is_err_and}
use Rattle.pair_words.specs.Words.{pair_of, shared_of, state_of, which_of}
use Rattle.pair_steps.proofs.Checks.{refuses}
use Rattle.pair_steps.proofs.Replies.{departure-malformed, departure-tables}
use Rattle.pair_c.proofs.departure.Goals as goal

pub returns-then-not-records_fit : goal.returns-then-not-records_fit
returns-then-not-records_fit c =
    let a = c.args in
    let p = pair_of a.second a.shared.now a.own.now a.other.now in
    rw (departure-malformed p (which_of a.second) a.handles.now a.sizes.now a.clock
    (sym c.records_fit.ensures.value ∙ c.if-not-records_fit.true)) (refl, refl, refl, refl)

pub returns-in_err-check_tables : goal.returns-in_err-check_tables
returns-in_err-check_tables c =
    let a = c.args in
    let p = err_from_is_err_and c.from_residual.result c.from_residual.ensures.1 in
    let e = refuses _ _ _ c.in_err-check_tables.ensures in
    rw (
      p.1,
      p.2,
      e.1,
      departure-tables (which_of a.second) (shared_of a.shared.now) (state_of a.own.now) (state_of a.other.now)
          a.handles.now a.sizes.now a.clock (sym c.records_fit.ensures.value ∙ c.if-not-records_fit.false) e.0,
    )
    (refl, refl, refl, refl)
