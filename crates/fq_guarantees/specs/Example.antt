-- Two flows over tables that held other things: a packet arrives at each, and the first one's leaves.
use Rattle.std.specs.Prelude.{◌≡◌, false, List, [], ◌∷◌, ◌++◌, ℕ, replicate}
use Rattle.pie.specs.declared.Verdict.TheVariants.{Enqueued}
use Rattle.fq_state.specs.Fresh.{settings_of}
use Rattle.fq_rules.specs.Answer.{Answer, departed, verdict}
use Rattle.fq_guarantees.specs.Handed.{Request, Run, ask_arrival, ask_departure, queued, run}

-- a key of 12 bytes 0 and one byte n: with salt 0, 0 is of flow 0 and 1 of flow 29
abbrev pub key_of : ℕ → List ℕ
key_of n = replicate 12 0 ++ n ∷ []

abbrev arrives : (clock key handle size : ℕ) → Request
arrives clock key handle size = ask_arrival clock (key_of key) handle size false 0

abbrev pub requests : List Request
requests = arrives 0 0 7 1000 ∷ arrives 0 1 20 200 ∷ ask_departure 1 ∷ []

abbrev pub answers : List Answer
answers = verdict Enqueued ∷ verdict Enqueued ∷ departed 0 7 1000 ∷ []

abbrev ended : Run
ended = run (settings_of 15000 64000 8 0) 0 (replicate 8 4294967295) (replicate 8 4294967295) requests

abbrev pub Example : Type 0
Example = (ended.answers ≡ answers) × (queued 29 ended.flows ≡ record { handle = 20; size = 200 } ∷ [])
