-- Demand 3 and question 4: once a crowd has left, how long does the queue go on dropping? Any list of calls, from any well-formed state,
-- with any tables lent to each call (document 01, 'The list of calls in demand 3').
use Rattle.std.specs.Prelude.{◌≡◌, true, cond, ℕ, ◌+◌, ◌-◌, ◌≤◌, eqb}
use mathlib.Core.List.{List, [], ◌∷◌, ◌++◌, foldl, Memᴰ}
use Rattle.units.specs.Kinds.{none}
use Rattle.pie.specs.Constants.{full_allowance}
use Rattle.pie.specs.Verdicts.{admitted}
use Rattle.ring.specs.declared.State.{State}
use Rattle.ring.specs.State.{well_formed}
use Rattle.refusals.specs.Answer.{Answer, departed, made, refused, ticked, verdict}
use Rattle.ring_guarantees.specs.Calls.{ByLimitsBefore, Entry, trace}
use Rattle.ring.specs.Calls.{Call, update}

-- what the answers so far come to
pub record Tally : Type 0 where
  -- arrivals answered enqueued or marked
  pub admissions : ℕ
  -- accepted departures
  pub departures : ℕ
  -- accepted ticks in succession up to the last one, that each found the queue empty
  pub empty_ticks : ℕ

-- the packets queued: the count in the starting state, plus the admissions, less the departures
abbrev pub queued_by : (start_count : ℕ) → Tally → ℕ
queued_by start_count t = start_count + t.admissions - t.departures

-- one answer more
abbrev pub noted : (start_count : ℕ) → Tally → Answer → Tally
noted n t (refused number) = t
noted n t made = t
noted n t (verdict v) =
    record { admissions = cond (admitted v) (t.admissions + 1) t.admissions; departures = t.departures; empty_ticks = t.empty_ticks }
noted n t (departed handle size) = record { admissions = t.admissions; departures = t.departures + 1; empty_ticks = t.empty_ticks }
noted n t ticked =
    record { admissions = t.admissions; departures = t.departures; empty_ticks = cond (eqb (queued_by n t) 0) (t.empty_ticks + 1) 0 }

abbrev pub nothing_yet : Tally
nothing_yet = record { admissions = 0; departures = 0; empty_ticks = 0 }

abbrev pub tally : (start_count : ℕ) → List Entry → Tally
tally n entries = foldl (λ t e. noted n t e.answer) nothing_yet entries

-- of an entry of a trace, with the entries before it and those after it
pub record RecoveredAfter (ticks start_count : ℕ) (before : List Entry) (e : Entry) (later : List Entry) : Type 0 where
  -- the count in the state that the call is given is the number that the answers tell, a true difference
  pub counted : e.given.backlog.count ≡ queued_by start_count (tally start_count before)
  pub covered : (tally start_count before).departures ≤ start_count + (tally start_count before).admissions
  -- the last of so many ticks: probability 0 in the state it returns, and rules 1 and 2 alone for the next 150,000 microseconds
  pub recovers : (t : ℕ) → e.call ≡ update t → e.answer ≡ ticked → ticks ≤ (tally start_count (before ++ e ∷ [])).empty_ticks →
      (e.returned.pie.prob.0 ≡ none) × ((a : Entry) → Memᴰ a later → ByLimitsBefore (t + full_allowance) a)

-- over any list of calls from this state, wherever its trace is cut
abbrev pub RecoversAfter : (ticks : ℕ) → State → Type 0
RecoversAfter ticks start =
    (calls : List Call) (before : List Entry) (e : Entry) (later : List Entry) →
    trace start calls ≡ before ++ e ∷ later → RecoveredAfter ticks start.backlog.count before e later

abbrev pub Recovery : Type 0
Recovery = (start : State) → well_formed start ≡ true → RecoversAfter 1000 start
