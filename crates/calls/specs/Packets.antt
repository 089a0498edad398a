-- Packets, as the queue knows them.
use Rattle.std.specs.Prelude.{List, [], ◌∷◌, map, ℕ, ◌≤◌}
use Rattle.pie.specs.Constants.{largest}
use Rattle.pie.specs.Verdicts.{total}

pub record Packet : Type 0 where
  pub handle : ℕ
  pub size : ℕ

abbrev pub bytes_of : List Packet → ℕ
bytes_of packets = total (map (λ p. p.size) packets)

-- each size is one that an arrival may have: from 1 to 65,535
abbrev pub Sized : List Packet → Type 0
Sized [] = Unit {0}
Sized (p ∷ ps) = (1 ≤ p.size) × (p.size ≤ largest) × Sized ps
