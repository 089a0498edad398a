-- What firmware asks of a queue, and the packets that a call brings in and hands out.
use Rattle.std.specs.Prelude.{Bool, cond, List, [], ◌∷◌, ℕ}
use Rattle.refusals.specs.Answer.{Answer, admits, departed, made, refused, ticked, verdict}
use Rattle.calls.specs.Packets.{Packet}

-- a call as it is asked for: the queue's own tables are lent to it
pub data Request : Type 0 where
  ask_arrival : (clock handle size : ℕ) (ecn : Bool) (u : ℕ) → Request
  ask_departure : (clock : ℕ) → Request
  ask_tick : (clock : ℕ) → Request

-- the packet that an arrival brings, if it is admitted
abbrev pub brought : Request → List Packet
brought (ask_arrival clock handle size ecn u) = record { handle = handle; size = size } ∷ []
brought (ask_departure clock) = []
brought (ask_tick clock) = []

abbrev pub admitted_by : Request → Answer → List Packet
admitted_by r a = cond (admits a) (brought r) []

-- the packet that a departure hands out
abbrev pub departed_by : Answer → List Packet
departed_by (refused number) = []
departed_by made = []
departed_by (verdict v) = []
departed_by (departed handle size) = record { handle = handle; size = size } ∷ []
departed_by ticked = []
