-- `obikuteru_log_begin`: the library's `begin`, in words and bytes.
use Rattle.log_c.proofs.Answered.{written}
use Rattle.log_c.proofs.obikuteru_log_begin.Goals as goal

pub returns : goal.returns
returns c = written c.begin-w.result.accepted c.begin-w.result.writer (rw c.get_header.ensures at c.begin-w.ensures) c.code.ensures
