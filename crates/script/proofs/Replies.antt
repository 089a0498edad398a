-- What a call answered, as the line that is written has it.
use mathlib.Core.Path.{◌≡◌}
use mathlib.Core.List.{List, ◌++◌}
use Prim.Native.Nat.{ℕ}
use Rattle.decimal.specs.Written.{Wrote}
use Rattle.decimal.specs.declared.Output.{Output}
use Rattle.ring.specs.Answer.{Reply}
use Rattle.refusals.specs.Answer.{Answer}
use Rattle.ring.specs.declared.State.{State}
use Rattle.script.specs.Answering.{continued, replied}
use Rattle.script.specs.Done.{Said}
use Rattle.script.specs.Feeding.{room}
use Rattle.script.specs.declared.Session.{Session}
use Rattle.script_answers.specs.Output.{state_text, word_of}

pub said : (s t : Session) (r : Reply) (state : State) (handles sizes : List ℕ) (x y : Output) (answer : Answer) → state ≡ r.state → word_of answer ≡ word_of r.answer → t ≡ continued s state → Wrote room x y (word_of answer ++ state_text state) → Said (replied s r handles sizes) t x y
said s t r state handles sizes x y answer e a h w =
    record { session = rw (← e) h; text = rw (← e, ← a) w }
