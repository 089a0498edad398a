-- `words_of_part`: an empty part stands at 0.
use Rattle.log_c.proofs.Answered.{empty-part, some-part}
use Rattle.log_c.proofs.words_of_part.Goals as goal

pub returns-then-length-eq0 : goal.returns-then-length-eq0
returns-then-length-eq0 c = empty-part c.args.from c.args.length c.if-length-eq0.true

pub returns : goal.returns
returns c = some-part c.args.from c.args.length c.if-length-eq0.false
