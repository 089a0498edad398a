-- What it means that a session answered a line.
use Rattle.std.specs.Prelude.{◌≡◌, List, ℕ}
use Rattle.decimal.specs.Written.{Wrote}
use Rattle.decimal.specs.declared.Output.{Output}
use Rattle.script.specs.Answering.{Outcome}
use Rattle.script.specs.Feeding.{room}
use Rattle.script.specs.declared.Session.{Session}

-- the session is the outcome's, and its text stands in the buffer
pub record Said (o : Outcome) (s : Session) (before after : Output) : Type 0 where
  pub session : s ≡ o.session
  pub text : Wrote room before after o.text

-- and the tables are the outcome's
pub record Did (o : Outcome) (s : Session) (h z : List ℕ) (before after : Output) : Type 0 where
  pub said : Said o s before after
  pub handles : h ≡ o.handles
  pub sizes : z ≡ o.sizes
