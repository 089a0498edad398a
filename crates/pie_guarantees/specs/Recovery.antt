-- Demand 3 and question 4, of any kind of queue that sheds load by PIE: once a crowd has left, how long does the queue go on dropping? Any
-- list of calls, from any well-formed state.
use Rattle.std.specs.Prelude.{◌≡◌, cond, ℕ, ◌+◌, ◌-◌, ◌≤◌, eqb}
use mathlib.Core.List.{List, [], ◌∷◌, ◌++◌, foldl, Memᴰ}
use Rattle.units.specs.Kinds.{none}
use Rattle.pie.specs.Constants.{full_allowance}
use Rattle.pie.specs.Verdicts.{admitted}
use Rattle.calls.specs.Traces.{Entry, trace}
use Rattle.pie_guarantees.specs.AllowanceLasts.{ByLimitsBefore}
use Rattle.pie_guarantees.specs.Shedding.{Shedding, Sheds, Told, decided, departed, nothing, ticked}

-- what the answers so far come to
pub record Tally : Type 0 where
  -- arrivals answered enqueued or marked
  pub admissions : ℕ
  -- accepted departures
  pub departures : ℕ
  -- accepted ticks in succession up to the last one, that each found the queue empty
  pub empty_ticks : ℕ

-- the packets queued: the count in the starting state, plus the admissions, less the departures
abbrev pub queued_by : (start_count : ℕ) → Tally → ℕ
queued_by start_count t = start_count + t.admissions - t.departures

-- one answer more
abbrev pub noted : (start_count : ℕ) → Tally → Told → Tally
noted n t nothing = t
noted n t (decided v) =
    record { admissions = cond (admitted v) (t.admissions + 1) t.admissions; departures = t.departures; empty_ticks = t.empty_ticks }
noted n t (departed size) = record { admissions = t.admissions; departures = t.departures + 1; empty_ticks = t.empty_ticks }
noted n t ticked =
    record { admissions = t.admissions; departures = t.departures; empty_ticks = cond (eqb (queued_by n t) 0) (t.empty_ticks + 1) 0 }

abbrev pub nothing_yet : Tally
nothing_yet = record { admissions = 0; departures = 0; empty_ticks = 0 }

abbrev pub tally : (k : Shedding) (start_count : ℕ) → List (Entry k.kind) → Tally
tally k n entries = foldl (λ t e. noted n t (k.tells e.answer)) nothing_yet entries

-- of an entry of a trace, with the entries before it and those after it
pub record RecoveredAfter (k : Shedding) (ticks start_count : ℕ)
    (before : List (Entry k.kind)) (e : Entry k.kind) (later : List (Entry k.kind)) : Type 0 where
  -- the count in the state that the call is given is the number that the answers tell, a true difference
  pub counted : k.count e.given ≡ queued_by start_count (tally k start_count before)
  pub covered : (tally k start_count before).departures ≤ start_count + (tally k start_count before).admissions
  -- the last of so many ticks: probability 0 in the state it returns, and rules 1 and 2 alone for the next 150,000 microseconds
  pub recovers : k.tells e.answer ≡ ticked → ticks ≤ (tally k start_count (before ++ e ∷ [])).empty_ticks →
      ((k.pie e.returned).prob.0 ≡ none)
      × ((a : Entry k.kind) → Memᴰ a later → ByLimitsBefore k (k.clock e.call + full_allowance) a)

-- over any list of calls from this state, wherever its trace is cut
abbrev pub RecoversAfter : (k : Shedding) (ticks : ℕ) → k.kind.State → Type 0
RecoversAfter k ticks start =
    (calls : List k.kind.Call) (before : List (Entry k.kind)) (e : Entry k.kind) (later : List (Entry k.kind)) →
    trace k.kind start calls ≡ before ++ e ∷ later → RecoveredAfter k ticks (k.count start) before e later

abbrev pub Recovery : Type 1
Recovery = (k : Shedding) → Sheds k → (start : k.kind.State) → k.Formed start → 1000 ≤ k.target start → RecoversAfter k 1000 start
