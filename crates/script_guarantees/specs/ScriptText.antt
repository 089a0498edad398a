-- What any script writes: the line of its `c`, and then for each request the answer in its trace, up to the end or the first bad line.
use Rattle.std.specs.Prelude.{◌≡◌, cond, ℕ, ◌+◌, ◌-◌, ◌^◌, min, length}
use mathlib.Core.List.{List, [], ◌++◌, flat_map}
use Rattle.ring.specs.Fresh.{fresh, settings_of}
use Rattle.script_answers.specs.Output.{bad_text, reply_text, state_text, word_of}
use Rattle.ring_guarantees.specs.Calls.{Entry}
use Rattle.script.specs.Script.{script}
use Rattle.script_guarantees.specs.Asked.{Asked, Body, asked, nothing, started, unstarted}
use Rattle.script_guarantees.specs.Entries.{entries_of}

-- the answer's word, then probability and bytes of the state that the call returned
abbrev pub line_text : Entry → List ℕ
line_text e = word_of e.answer ++ state_text e.returned

-- the number of the line after a `c` and so many requests: lines are counted no further than to 2^64 − 1
abbrev pub line_after : (requests : ℕ) → ℕ
line_after requests = min (requests + 2) (2 ^ 64 - 1)

abbrev pub end_text : Body → List ℕ
end_text body = cond body.bad (bad_text (line_after (length body.requests))) []

abbrev pub text_of : Asked → List ℕ
text_of nothing = []
text_of unstarted = bad_text 1
text_of (started target buffer slots body) =
    reply_text (fresh (settings_of target buffer slots 0) 0)
    ++ (flat_map line_text (entries_of (started target buffer slots body)) ++ end_text body)

abbrev pub ScriptText : Type 0
ScriptText = (input : List ℕ) → script input ≡ text_of (asked input)
