-- `settings` meets its contract.
use mathlib.Core.Path.{◌∙◌, sym}
use native.Mathlib.Omega.{arith}
use Rattle.call_log.specs.Reader.{settings_of}
use Rattle.call_log.proofs.Facts.{sound}
use Rattle.call_log.proofs.reading.settings.Goals as goal

pub returns-then-bad : goal.returns-then-bad
unfolding settings_of
returns-then-bad c = simp (← c.trailer_refused-bad.ensures, c.if-bad.true)

pub get_header-h-requires : goal.get_header-h-requires
get_header-h-requires c = let s = sound c.args.log.now (sym c.trailer_refused-bad.ensures ∙ c.if-bad.false) in omega arith

pub returns-then-wrong : goal.returns-then-wrong
unfolding settings_of
returns-then-wrong c = simp (← c.trailer_refused-bad.ensures, c.if-bad.false, ← c.get_header-h.ensures, ← c.header_refused-wrong.ensures, c.if-wrong.true)

pub returns : goal.returns
unfolding settings_of
returns c = simp (← c.trailer_refused-bad.ensures, c.if-bad.false, ← c.get_header-h.ensures, ← c.header_refused-wrong.ensures, c.if-wrong.false)
