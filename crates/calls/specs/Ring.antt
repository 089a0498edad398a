-- How two tables, of handles and of sizes, hold packets as a ring.
use Rattle.std.specs.Prelude.{List, [], ◌∷◌, ℕ, zero, suc, ◌+◌, ◌%◌, get_or}
use Rattle.calls.specs.Packets.{Packet}

-- f 0, f 1, ..: n of them
abbrev pub listed : {A : Type 0} → ℕ → (ℕ → A) → List A
listed zero f = []
listed (suc n) f = f 0 ∷ listed n (λ i. f (suc i))

-- the packet at an element of the tables
abbrev pub slot : (handles sizes : List ℕ) (place : ℕ) → Packet
slot handles sizes place = record { handle = get_or handles place 0; size = get_or sizes place 0 }

-- the packets from the head on: the one at place i of the ring stands at (first + i) modulo slots
abbrev pub ring : (first slots : ℕ) (handles sizes : List ℕ) (count : ℕ) → List Packet
ring first slots handles sizes count = listed count (λ i. slot handles sizes ((first + i) % slots))
