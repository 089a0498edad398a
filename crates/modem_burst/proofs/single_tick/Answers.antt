-- `single_tick`: of a well-formed flow the burst's own tick, of others the single entry.
use Rattle.modem_burst.proofs.single_tick.Goals as goal
use mathlib.Core.Path.{sym, ◌∙◌}
use Rattle.modem.specs.Calls.{tick}
use Rattle.modem.specs.Counts.{row_of}
use Rattle.modem_words.specs.Words.{state_of}
use Rattle.modem_burst.proofs.Fits.{fits}
use Rattle.modem_burst.proofs.Kept.{within}
use Rattle.modem_burst.proofs.Within.{tick-uncounted}

pub tick-requires : goal.tick-requires
tick-requires c =
    let r = c.record_fits-formed.ensures in
    (r.words_len c.if-formed.true, (fits _ _ _ (sym r.value ∙ c.if-formed.true)).1)

pub returns-then-formed : goal.returns-then-formed
unfolding tick
returns-then-formed c =
    let f = fits _ _ _ (sym c.record_fits-formed.ensures.value ∙ c.if-formed.true) in
    let s = state_of c.args.w.now in
    let row = row_of c.args.counts.now c.args.flow in
    let e = rw c.from.ensures at (c.tick.ensures row f.2) in
    rw (within c.args.flow s c.args.counts.now _ f.0) (e.0, e.1, tick-uncounted c.args.counts.now c.args.flow s row c.args.clock c.args.credits)
