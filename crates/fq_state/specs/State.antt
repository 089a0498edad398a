-- 18, 19: the record of 64 flows. One array of five counts serves the whole record.
use Rattle.std.specs.Prelude.{List, map, ℕ, get_or}
use Rattle.schedule.specs.Ring.{Schedule}
use Rattle.fq_state.specs.Flow.{empty_flow}
use Rattle.fq_state.specs.declared.Common.{Common}
use Rattle.fq_state.specs.declared.Flow.{Flow}

pub record State : Type 0 where
  -- settings, clock, last tick, total count and bytes, the store, and the five counts
  pub common : Common
  -- the new and the old list, in one ring, and the deficits
  pub schedule : Schedule
  pub flows : List Flow

-- the flow of this number
abbrev pub flow_at : List Flow → (flow : ℕ) → Flow
flow_at flows i = get_or flows i (empty_flow 0)

abbrev pub count_of : Flow → ℕ
count_of f = f.count

abbrev pub bytes_of : Flow → ℕ
bytes_of f = f.bytes

-- how many packets each flow has, and how many bytes
abbrev pub counts_of : List Flow → List ℕ
counts_of flows = map count_of flows

abbrev pub each_bytes : List Flow → List ℕ
each_bytes flows = map bytes_of flows
