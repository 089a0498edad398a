-- `well_formed`: part by part.
use mathlib.Core.Path.{sym, ◌∙◌}
use Rattle.pair_rules.proofs.Facts.{parts, queue-fits}
use Rattle.pair_rules.specs.Queues.{paired}
use Rattle.pair_rules.specs.declared.Which.TheVariants.{Intercom}
use Rattle.pair_rules.proofs.testing.well_formed.Goals as goal

pub returns-then-not-fits : goal.returns-then-not-fits
returns-then-not-fits c =
    rw (parts (paired Intercom c.args.shared c.args.intercom c.args.passengers), ← c.fits.ensures, c.if-not-fits.true)

pub returns-then-not-fits-2 : goal.returns-then-not-fits-2
returns-then-not-fits-2 c =
    rw (
      parts (paired Intercom c.args.shared c.args.intercom c.args.passengers),
      ← c.fits.ensures,
      ← c.fits-2.ensures,
      c.if-not-fits.false,
      c.if-not-fits-2.true,
    )

pub returns-then-not-fits-3 : goal.returns-then-not-fits-3
returns-then-not-fits-3 c =
    rw (
      parts (paired Intercom c.args.shared c.args.intercom c.args.passengers),
      ← c.fits.ensures,
      ← c.fits-2.ensures,
      ← c.fits-3.ensures,
      c.if-not-fits.false,
      c.if-not-fits-2.false,
      c.if-not-fits-3.true,
    )

pub holds-requires-clause-count_le_slots : goal.holds-requires-clause-count_le_slots
holds-requires-clause-count_le_slots c =
    let a = queue-fits c.args.shared.slots c.args.intercom (sym c.fits-2.ensures ∙ c.if-not-fits-2.false) in
    let b = queue-fits c.args.shared.slots c.args.passengers (sym c.fits-3.ensures ∙ c.if-not-fits-3.false) in
    (a.count-high, b.count-high)

pub returns : goal.returns
returns c =
    rw (
      parts (paired Intercom c.args.shared c.args.intercom c.args.passengers),
      ← c.fits.ensures,
      ← c.fits-2.ensures,
      ← c.fits-3.ensures,
      c.if-not-fits.false,
      c.if-not-fits-2.false,
      c.if-not-fits-3.false,
    ) c.holds.ensures
