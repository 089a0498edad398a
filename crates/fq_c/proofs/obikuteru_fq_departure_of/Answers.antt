-- `obikuteru_fq_departure_of`: refused by 2, or as the call on a well-formed record.
use mathlib.Core.Path.{◌≡◌, refl, sym, ◌∙◌}
use mathlib.Core.Bool.{false}
use Rattle.fq_state.specs.WellFormed.{well_formed}
use Rattle.fq_rules.proofs.Malformed.{malformed-departure}
use Rattle.fq_words.specs.Words.{lent}
use Rattle.fq_c.proofs.obikuteru_fq_departure_of.Goals as goal

pub returns-then-not-formed : goal.returns-then-not-formed
returns-then-not-formed c =
    let s = lent c.args.common.now c.args.order.now c.args.deficits.now c.args.flows.now in
    let malformed : well_formed s ≡ false = sym c.fits-formed.ensures.value ∙ c.if-not-formed.true in
    rw (malformed-departure s c.args.handles.now c.args.sizes.now c.args.clock malformed) (c.refused.ensures, refl, refl, refl, refl, refl, refl)
