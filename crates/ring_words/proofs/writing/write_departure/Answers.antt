-- `write_departure`: its words, with all of the rate's or with the counted bytes alone.
use Rattle.ring_words.proofs.Departures.{counted_words, rate-words}
use Rattle.ring_words.proofs.writing.write_departure.Goals as goal
use Rattle.ring_words.proofs.writing.write_departure.Goals.{then-rate-eq0, else-rate-eq0}

pub returns-clause-w_after : goal.returns-clause-w_after
returns-clause-w_after c =
    let s = c.args.state in
    elim c.if-rate-eq0.branch [
      | then-rate-eq0 w ↦ rw (w.w-is, w.flag.ensures) (rate-words _ s.clock.0 c.args.size s c.requires.0 c.requires.1)
      | else-rate-eq0 w ↦ rw w.w-is (counted_words _ s.clock.0 c.args.size s c.requires.0 c.requires.1 w.if-rate-eq0.false)
    ]
