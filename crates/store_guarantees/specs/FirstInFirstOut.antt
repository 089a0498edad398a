-- From fresh, with everything handed back untouched: what entered a chain is what left it and then what it holds, in order.
use Rattle.std.specs.Prelude.{◌≡◌, ℕ, ◌≤◌, get_or, length, replicate, set}
use mathlib.Core.List.{List, [], ◌∷◌, ◌++◌, foldl}
use Rattle.calls.specs.Packets.{Packet}
use Rattle.store_guarantees.specs.Chains.{Chains, fresh_chains, packets_in}
use Rattle.store_guarantees.specs.Requests.{AllProper, Outcome, Request, after, chain_of, empty}
use Rattle.store_guarantees.specs.Requests.{full, lost, outcome_of, put, stored, take, taken}

-- the packet that a request with this outcome puts
abbrev pub entering : Request → Outcome → List Packet
entering (put i handle size) stored = record { handle = handle; size = size } ∷ []
entering (put i handle size) (taken p) = []
entering (put i handle size) full = []
entering (put i handle size) empty = []
entering (put i handle size) lost = []
entering (take i) o = []

-- the packet that it takes
abbrev pub leaving : Outcome → List Packet
leaving stored = []
leaving (taken p) = p ∷ []
leaving full = []
leaving empty = []
leaving lost = []

-- the chains, with what entered and what left each since they were fresh, in order
pub record Run : Type 0 where
  pub chains : Chains
  pub entered : List (List Packet)
  pub left : List (List Packet)

-- chain i's list goes on with `more`
abbrev pub grown : List (List Packet) → (chain : ℕ) → (more : List Packet) → List (List Packet)
grown lists i more = set lists i (get_or lists i [] ++ more)

abbrev pub step : Run → Request → Run
step r q =
    let o = outcome_of r.chains q in
    record {
      chains = after r.chains q;
      entered = grown r.entered (chain_of q) (entering q o);
      left = grown r.left (chain_of q) (leaving o);
    }

abbrev pub run : (slots n : ℕ) (handles sizes : List ℕ) → List Request → Run
run slots n handles sizes requests =
    foldl step (record { chains = fresh_chains slots n handles sizes; entered = replicate n []; left = replicate n [] }) requests

abbrev pub InOrder : Run → Type 0
InOrder r = (i : ℕ) → get_or r.entered i [] ≡ get_or r.left i [] ++ packets_in r.chains i

abbrev pub FirstInFirstOut : Type 0
FirstInFirstOut =
    (slots n : ℕ) (handles sizes : List ℕ) (requests : List Request) →
    1 ≤ slots → slots ≤ 65536 → length handles ≡ slots → length sizes ≡ slots → AllProper n requests →
    InOrder (run slots n handles sizes requests)
