-- `ready`: what each test that passes says.
use Rattle.modem_burst.proofs.ready.Goals as goal
use mathlib.Core.Path.{sym, ◌∙◌}
use mathlib.Core.Bool.{false≢true}
use native.Mathlib.Omega.{arith}
use borrow.Author.Tests.{leb-true}
use Rattle.pie.specs.Constants.{most_verdicts}
use Rattle.modem_words.specs.Words.{state_of}
use Rattle.modem_burst.proofs.Fits.{fits}

pub returns-then-not-formed : goal.returns-then-not-formed
returns-then-not-formed c = λ e. absurd (false≢true e)

pub returns-then-handles-w : goal.returns-then-handles-w
returns-then-handles-w c = λ e. absurd (false≢true e)

pub returns-then-sizes-w : goal.returns-then-sizes-w
returns-then-sizes-w c = λ e. absurd (false≢true e)

pub bounds-counts-flow : goal.bounds-counts-flow
bounds-counts-flow c =
    let r = c.record_fits-formed.ensures in
    omega (arith, (fits _ _ _ (sym r.value ∙ c.if-not-formed.false)).0)

pub has_room-requires : goal.has_room-requires
has_room-requires c = let r = c.record_fits-formed.ensures in (fits _ _ _ (sym r.value ∙ c.if-not-formed.false)).2

pub returns : goal.returns
unfolding state_of
returns c =
    let r = c.record_fits-formed.ensures in
    let f = fits _ _ _ (sym r.value ∙ c.if-not-formed.false) in
    λ e. (
      f.0,
      (r.words_len c.if-not-formed.false, f.1, c.if-handles-w.false, c.if-sizes-w.false),
      leb-true _ most_verdicts (sym c.has_room.ensures ∙ e),
    )
