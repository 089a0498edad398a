-- A stretch of arrivals and departures over the lists, the bytes that it serves to a flow, and what it is for a flow to wait in it.
use Rattle.std.specs.Prelude.{cond, List, [], ◌∷◌, ℕ, ◌+◌, ◌-◌, ◌≤◌, ◌<◌, eqb, get_or, set}
use Rattle.schedule.specs.Choosing.{charged, choose}
use Rattle.schedule.specs.Entering.{arrived}
use Rattle.schedule.specs.TwoLists.{TwoLists, deficit_of, zero_deficit}

-- the packets of each flow, and the lists and deficits
pub record Line : Type 0 where
  pub counts : List ℕ
  pub lists : TwoLists

-- a packet is admitted to a flow (25), or a packet of this size leaves the flow that is chosen (27)
pub data Event : Type 0 where
  arrives : (flow : ℕ) → Event
  departs : (size : ℕ) → Event

-- the flow that a departure serves
abbrev pub next : Line → ℕ
next l = (choose l.counts l.lists).flow

unfoldable pub after : Line → Event → Line
after l (arrives flow) =
    record { counts = set l.counts flow (get_or l.counts flow 0 + 1); lists = arrived l.lists flow }
after l (departs size) =
    record {
      counts = set l.counts (next l) (get_or l.counts (next l) 0 - 1);
      lists = charged (choose l.counts l.lists).lists (next l) size;
    }

abbrev pub bytes : (flow : ℕ) → Line → Event → ℕ
bytes flow l (arrives other) = 0
bytes flow l (departs size) = cond (eqb (next l) flow) size 0

-- the bytes that a stretch serves to a flow
unfoldable pub served : (flow : ℕ) → Line → List Event → ℕ
served flow l [] = 0
served flow l (e ∷ events) = bytes flow l e + served flow (after l e) events

-- each arrival is at one of the flows; no packet is larger than the most
abbrev pub Fits : (most : ℕ) → Event → Type 0
Fits most (arrives flow) = flow < 64
Fits most (departs size) = size ≤ most

abbrev pub AllFit : (most : ℕ) → List Event → Type 0
AllFit most [] = Unit {0}
AllFit most (e ∷ events) = Fits most e × AllFit most events

-- a flow has packets whenever a departure chooses
abbrev pub HasPackets : (flow : ℕ) → Line → Event → Type 0
HasPackets flow l (arrives other) = Unit {0}
HasPackets flow l (departs size) = 1 ≤ get_or l.counts flow 0

abbrev pub AtEach : (flow : ℕ) → Line → List Event → Type 0
AtEach flow l [] = Unit {0}
AtEach flow l (e ∷ events) = HasPackets flow l e × AtEach flow (after l e) events

-- it has packets at the start too, and its deficit there is at least −most, as it is where no packet was larger before (Owing)
pub record Waits (flow most : ℕ) (l : Line) (events : List Event) : Type 0 where
  pub at-start : 1 ≤ get_or l.counts flow 0
  pub at_each : AtEach flow l events
  pub deficit : zero_deficit ≤ deficit_of l.lists flow + most
