-- `tick`: refusal 2; all others are the call's on well-formed records.
use mathlib.Core.Path.{refl, sym, ◌∙◌}
use Rattle.pair_words.specs.Words.{pair_of, which_of}
use Rattle.pair_steps.proofs.Replies.{tick-malformed}
use Rattle.pair_c.proofs.tick.Goals as goal

pub returns-then-not-records_fit : goal.returns-then-not-records_fit
returns-then-not-records_fit c =
    let a = c.args in
    let p = pair_of a.second a.shared.now a.own.now a.other.now in
    rw (tick-malformed p (which_of a.second) a.clock (sym c.records_fit.ensures.value ∙ c.if-not-records_fit.true))
    (refl, refl)
