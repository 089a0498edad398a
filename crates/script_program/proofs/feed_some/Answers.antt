-- `feed_some`: what `feed` took.
use mathlib.Core.Path.{ap}
use Rattle.script.specs.Pieces.{emptied}
use Rattle.script_program.proofs.feed_some.Goals as goal

pub returns-clause-fed : goal.returns-clause-fed
returns-clause-fed g c = record { taken = c.feed-fed.result.taken; feeds = ap emptied c.feed-fed.ensures.follows }
