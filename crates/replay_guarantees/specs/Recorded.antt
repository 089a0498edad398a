-- The records of a queue's calls: each accepted call, in order, with its answer, and probability and bytes after it (docs/LOG.md).
use Rattle.std.specs.Prelude.{cond, List, [], ◌∷◌, ◌++◌, ℕ, ◌<◌, ◌^◌}
use Rattle.refusals.specs.Answer.{Answer, departed, made, refused, ticked, verdict}
use Rattle.ring.specs.declared.State.{State}
use Rattle.log_codec.specs.declared.Record.{Record}
use Rattle.ring.specs.Calls.{Queue, after, answer_of}
use Rattle.calls.specs.Requests.{Request, ask_arrival, ask_departure, ask_tick}
use Rattle.replay.specs.Agreement.{verdict_in}
use Rattle.replay.specs.Replied.{bytes_in, prob_in}

abbrev pub line : (kind ecn handle clock size u : ℕ) → Answer → State → Record
line kind ecn handle clock size u a s =
    record {
      kind = kind;
      ecn = ecn;
      unused = 0;
      handle = handle;
      clock = clock;
      size = size;
      u = u;
      verdict = verdict_in a;
      bytes = bytes_in s;
      prob = prob_in s;
    }

-- the record of a call, with its answer and the state after it: 97 is the letter a, 100 is d, 116 is t; what a kind does not use is 0
abbrev pub record_of : Request → Answer → State → Record
record_of (ask_arrival clock handle size ecn u) a s = line 97 (cond ecn 1 0) handle clock size u a s
record_of (ask_departure clock) a s = line 100 0 0 clock 0 0 a s
record_of (ask_tick clock) a s = line 116 0 0 clock 0 0 a s

-- an accepted call is recorded, a refused one is not
abbrev pub if_accepted : Answer → Record → List Record
if_accepted (refused number) r = []
if_accepted made r = r ∷ []
if_accepted (verdict v) r = r ∷ []
if_accepted (departed handle size) r = r ∷ []
if_accepted ticked r = r ∷ []

-- the records of these calls, state and tables handed back untouched
abbrev pub recorded : Queue → List Request → List Record
recorded q [] = []
recorded q (r ∷ requests) =
    let a = answer_of q r in
    let next = after q r in
    if_accepted a (record_of r a next.state) ++ recorded next requests

-- handle and u are 32-bit numbers, as they are wherever code holds them
abbrev pub Fits : Request → Type 0
Fits (ask_arrival clock handle size ecn u) = (handle < 2 ^ 32) × (u < 2 ^ 32)
Fits (ask_departure clock) = Unit
Fits (ask_tick clock) = Unit

abbrev pub AllFit : List Request → Type 0
AllFit [] = Unit
AllFit (r ∷ requests) = Fits r × AllFit requests
