-- What a call does to the flows' counts, the lists and the deficits, whatever the record, with its ring of 64 places, and the tables are:
-- an admitted arrival is one arrival at its key's flow, a departure is the departure of a packet of the size that it answers from the
-- flow that it answers, and any other call, refused or accepted, changes none of them. So what holds of a stretch (crate
-- schedule_guarantees) holds of a list of calls.
use Rattle.std.specs.Prelude.{◌≡◌, cond, ℕ, length}
use mathlib.Core.List.{List, [], ◌∷◌, foldl}
use Rattle.pie.specs.Verdicts.{admitted}
use Rattle.schedule.specs.Ring.{two_lists}
use Rattle.schedule_guarantees.specs.Stretch.{Event, Line, after, arrives, departs, next}
use Rattle.fq_state.specs.State.{State, counts_of}
use Rattle.fq_rules.specs.Answer.{Answer, departed, refused, ticked, verdict}
use Rattle.fq_guarantees.specs.Calls.{Call, key_flow, reply}

-- the counts, and the lists and deficits, of a record
abbrev pub line_of : State → Line
line_of s = record { counts = counts_of s.flows; lists = two_lists s.schedule }

-- what a call that was so answered does to them; key_flow: the flow of an arrival's key
abbrev pub events_of : (key_flow : ℕ) → Answer → List Event
events_of key_flow (refused number) = []
events_of key_flow (verdict v) = cond (admitted v) (arrives key_flow ∷ []) []
events_of key_flow (departed flow handle size) = departs size ∷ []
events_of key_flow ticked = []

-- the flow that a departure answers is the one that is chosen
abbrev pub ServesNext : Line → Answer → Type 0
ServesNext l (refused number) = Unit {0}
ServesNext l (verdict v) = Unit {0}
ServesNext l (departed flow handle size) = flow ≡ next l
ServesNext l ticked = Unit {0}

pub record MovesAsStretch (s : State) (c : Call) : Type 0 where
  pub line : line_of (reply s c).state ≡ foldl after (line_of s) (events_of (key_flow s c) (reply s c).answer)
  pub serves : ServesNext (line_of s) (reply s c).answer

abbrev pub AsStretch : Type 0
AsStretch = (s : State) (c : Call) → length s.schedule.order ≡ 64 → MovesAsStretch s c
