-- `State::check_departure`: the head is read once the state is known to be well formed and the tables to fit it.
use mathlib.Core.Path.{sym, ◌∙◌}
use native.Mathlib.Omega.{arith}
use Rattle.refusals.specs.Tests.{head_refused}
use Rattle.ring.specs.Departure.{departure_refusal, head_of}
use Rattle.ring.specs.Refusals.{empty_refused}
use Rattle.ring.proofs.Facts.{facts}
use Rattle.ring.proofs.Tests.{heads, passed}
use Rattle.ring.proofs.WhenAccepted.{tables-fit}
use Rattle.ring.proofs.State.check_departure.Goals as goal

pub offset_bounds-sizes-self : goal.offset_bounds-sizes-self
offset_bounds-sizes-self c =
    let f = facts _ (sym c.well_formed-2.ensures ∙ c.if-not-well_formed.false) in omega (arith, f.first-high, f.slots-high)

pub bounds-sizes-self : goal.bounds-sizes-self
bounds-sizes-self c =
    let f = facts _ (sym c.well_formed-2.ensures ∙ c.if-not-well_formed.false) in
    let fits = tables-fit c.args.self _ _ (passed _ _ _ (sym c.check_tables.ensures ∙ c.in_ok-check_tables.was)) in
    omega (arith, f.first-high, fits.1)

pub check_head-requires : goal.check_head-requires
check_head-requires c =
    let f = facts _ (sym c.well_formed-2.ensures ∙ c.if-not-well_formed.false) in omega (arith, f.count-high, f.slots-high)

pub returns : goal.returns
unfolding departure_refusal
returns c =
    let good = sym c.well_formed-2.ensures ∙ c.if-not-well_formed.false in
    let fits = passed _ _ _ (sym c.check_tables.ensures ∙ c.in_ok-check_tables.was) in
    let time = passed _ _ _ (sym c.check_clock.ensures ∙ c.in_ok-check_clock.was) in
    let head = heads (empty_refused c.args.self) (head_refused c.args.self.backlog (head_of c.args.self c.args.sizes.now)) in
    simp (c.check_head.ensures, good, fits, time, head)
