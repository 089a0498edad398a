-- Demand 3 and question 4 for C calls: once a crowd has left, how long does the queue go on dropping? Any list of C calls, from any words
-- that obikuteru_well_formed accepts, each call given the words that the last one left, with any tables lent to it.
use Rattle.std.specs.Prelude.{◌≡◌, true, cond, ℕ, ◌+◌, ◌≤◌, eqb, ltb}
use mathlib.Core.List.{List, [], ◌∷◌, ◌++◌, foldl, Memᴰ}
use Rattle.units.specs.Kinds.{none}
use Rattle.pie.specs.Constants.{full_allowance}
use Rattle.ring.specs.State.{well_formed}
use Rattle.ring_words.specs.Words.{state_of}
use Rattle.ring.specs.Calls.{Call, arrive, depart, update}
use Rattle.ring_guarantees.specs.Recovery.{Tally, nothing_yet, queued_by}
use Rattle.ring_c_guarantees.specs.CCalls.{CEntry, CodeByLimitsBefore, c_trace}
use Rattle.ring_c_guarantees.specs.Fields.{count_in, probability_in}

-- one call more, with its number: admissions are arrivals answered 0 or 1, departures those answered 0, and empty_ticks the ticks answered 0
-- in succession that each found the queue empty, by queued_by: the count in the starting words, plus the admissions, less the departures
abbrev pub code_noted : (start_count : ℕ) → Tally → Call → (code : ℕ) → Tally
code_noted n t (arrive handles sizes clock handle size ecn u) code =
    record { admissions = cond (ltb code 2) (t.admissions + 1) t.admissions; departures = t.departures; empty_ticks = t.empty_ticks }
code_noted n t (depart handles sizes clock) code =
    record { admissions = t.admissions; departures = cond (eqb code 0) (t.departures + 1) t.departures; empty_ticks = t.empty_ticks }
code_noted n t (update clock) code =
    record {
      admissions = t.admissions;
      departures = t.departures;
      empty_ticks = cond (eqb code 0) (cond (eqb (queued_by n t) 0) (t.empty_ticks + 1) 0) t.empty_ticks;
    }

abbrev pub codes_tally : (start_count : ℕ) → List CEntry → Tally
codes_tally n entries = foldl (λ t e. code_noted n t e.call e.code) nothing_yet entries

-- of an entry of a trace, with the entries before it and those after it
pub record CRecoveredAfter (ticks start_count : ℕ) (before : List CEntry) (e : CEntry) (later : List CEntry) : Type 0 where
  -- the count in the words that the call is given is the number that the codes tell, a true difference
  pub counted : count_in e.given ≡ queued_by start_count (codes_tally start_count before)
  pub covered : (codes_tally start_count before).departures ≤ start_count + (codes_tally start_count before).admissions
  -- the last of so many ticks: probability 0 in the words it leaves, and rules 1 and 2 alone for the next 150,000 microseconds
  pub recovers : (t : ℕ) → e.call ≡ update t → e.code ≡ 0 → ticks ≤ (codes_tally start_count (before ++ e ∷ [])).empty_ticks →
      (probability_in e.returned ≡ none) × ((a : CEntry) → Memᴰ a later → CodeByLimitsBefore (t + full_allowance) a)

-- over any list of C calls from these words, wherever its trace is cut
abbrev pub CRecoversAfter : (ticks : ℕ) (words : List ℕ) → Type 0
CRecoversAfter ticks words =
    (calls : List Call) (before : List CEntry) (e : CEntry) (later : List CEntry) →
    c_trace words calls ≡ before ++ e ∷ later → CRecoveredAfter ticks (count_in words) before e later

abbrev pub CRecovery : Type 0
CRecovery = (words : List ℕ) → well_formed (state_of words) ≡ true → CRecoversAfter 1000 words
