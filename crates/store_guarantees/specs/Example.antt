-- Two chains over three slots, tables that held other things: a freed slot serves the other chain, a put finds no slot, a take no packet.
use Rattle.std.specs.Prelude.{◌≡◌, List, [], ◌∷◌, ℕ}
use Rattle.calls.specs.Packets.{Packet}
use Rattle.store_guarantees.specs.Chains.{contents, fresh_chains}
use Rattle.store_guarantees.specs.FirstInFirstOut.{run}
use Rattle.store_guarantees.specs.Requests.{Outcome, Request, empty, full, outcomes, put, stored, take, taken}

abbrev pub requests : List Request
requests =
    put 0 11 100
    ∷ put 0 12 65535
    ∷ put 1 13 60
    ∷ put 1 14 61
    ∷ take 0
    ∷ take 0
    ∷ put 1 15 62
    ∷ put 1 16 63
    ∷ take 0
    ∷ take 1
    ∷ []

abbrev pub packet : (handle size : ℕ) → Packet
packet handle size = record { handle = handle; size = size }

abbrev pub answers : List Outcome
answers =
    stored
    ∷ stored
    ∷ stored
    ∷ full
    ∷ taken (packet 11 100)
    ∷ taken (packet 12 65535)
    ∷ stored
    ∷ stored
    ∷ empty
    ∷ taken (packet 13 60)
    ∷ []

abbrev pub before : List ℕ
before = 4294967295 ∷ 7 ∷ 4294967295 ∷ []

abbrev pub Example : Type 0
Example =
    (outcomes (fresh_chains 3 2 before before) requests ≡ answers)
    × (contents (run 3 2 before before requests).chains ≡ [] ∷ (packet 15 62 ∷ packet 16 63 ∷ []) ∷ [])
    -- the links: chain 1 stands at places 1 and 0, and place 2 is free
    × ((run 3 2 before before requests).chains.sizes ≡ 63 ∷ 62 ∷ 0 ∷ [])
