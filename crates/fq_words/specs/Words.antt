-- The record as words, in the order of struct obikuteru_fq: nineteen of what all flows have in common, 64 of the order, twelve of each
-- flow; and 64 deficits. How words are read; Written has the words of a record.
use Rattle.std.specs.Prelude.{List, [], ◌∷◌, ℕ, zero, suc, ◌+◌, drop, get_or}
use Rattle.units.specs.Kinds.{bytes, micros}
use Rattle.schedule.specs.Ring.{schedule_of}
use Rattle.schedule.specs.declared.Lists.{Lists}
use Rattle.fq_state.specs.Fresh.{settings_of}
use Rattle.fq_state.specs.State.{State}
use Rattle.fq_state.specs.declared.Common.{Common}
use Rattle.fq_state.specs.declared.Flow.{Flow}

-- ── what all flows have in common ──

-- the settings, clocks, totals, store and counts that the words hold
unfoldable pub common_of : (words : List ℕ) → Common
common_of w =
    record {
      settings = settings_of (get_or w 0 0) (get_or w 1 0) (get_or w 2 0) (get_or w 3 0);
      clock = micros (get_or w 4 0);
      last = micros (get_or w 5 0);
      backlog = record { count = get_or w 6 0; bytes = bytes (get_or w 7 0) };
      store = record { used = get_or w 8 0; freed = get_or w 9 0; spare = get_or w 10 0 };
      verdicts = get_or w 11 0 ∷ get_or w 12 0 ∷ get_or w 13 0 ∷ get_or w 14 0 ∷ get_or w 15 0 ∷ [];
    }

-- where the lists stand
unfoldable pub lists_of : (words : List ℕ) → Lists
lists_of w = record { first = get_or w 16 0; old = get_or w 17 0; listed = get_or w 18 0 }

-- ── the flows ──

-- the flow whose words start at place k
abbrev pub flow_from : (words : List ℕ) (k : ℕ) → Flow
flow_from w k =
    record {
      prob = get_or w (k + 0) 0;
      old = get_or w (k + 1) 0;
      allowance = get_or w (k + 2) 0;
      accumulated = get_or w (k + 3) 0;
      average = get_or w (k + 4) 0;
      measuring = get_or w (k + 5) 0;
      start = get_or w (k + 6) 0;
      counted = get_or w (k + 7) 0;
      count = get_or w (k + 8) 0;
      bytes = get_or w (k + 9) 0;
      head = get_or w (k + 10) 0;
      tail = get_or w (k + 11) 0;
    }

-- the flows that words hold, n of them: words and flows determine each other
unfoldable pub flows_from : ℕ → (words : List ℕ) → List Flow
flows_from zero w = []
flows_from (suc n) w = flow_from w 0 ∷ flows_from n (drop 12 w)

abbrev pub flows_of : (words : List ℕ) → List Flow
flows_of w = flows_from 64 w

-- ── the record ──

-- of its parts, with the order, the deficits and the flows as words
abbrev pub state_of : Common → Lists → (order deficits words : List ℕ) → State
state_of common lists order deficits words =
    record { common = common; schedule = schedule_of lists order deficits; flows = flows_of words }

-- the record that a call is lent
abbrev pub lent : (common order deficits flows : List ℕ) → State
lent common order deficits flows = state_of (common_of common) (lists_of common) order deficits flows
