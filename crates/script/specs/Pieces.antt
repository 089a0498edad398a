-- A script that is fed in pieces writes what the whole script writes.
use Rattle.std.specs.Prelude.{◌≡◌, true, List, [], ◌∷◌, ◌++◌, ℕ}
use Rattle.script.specs.Script.{no_packets, script}
use Rattle.script.specs.Feeding.{Machine, end_fed, fed, has_ended, machine, start_runner}

abbrev pub start : Machine
start = machine start_runner no_packets no_packets []

-- the same with an empty output, for the next piece
abbrev pub emptied : Machine → Machine
emptied m =
    record { run = record { session = m.run.session; handles = m.run.handles; sizes = m.run.sizes; output = [] }; reader = m.reader }

-- what the pieces write, one after the other, and then the end of the input
abbrev pub written : Machine → (pieces : List (List ℕ)) → List ℕ
written m [] = (end_fed m).run.output
written m (piece ∷ pieces) = let n = fed m piece in n.run.output ++ written (emptied n) pieces

abbrev pub joined_up : (pieces : List (List ℕ)) → List ℕ
joined_up [] = []
joined_up (piece ∷ pieces) = piece ++ joined_up pieces

-- any cut of a script into pieces
abbrev pub PiecesWriteTheScript : Type 0
PiecesWriteTheScript = (pieces : List (List ℕ)) → written start pieces ≡ script (joined_up pieces)

-- after a bad line the rest may be left unread
abbrev pub NothingAfterABadLine : Type 0
NothingAfterABadLine =
    (taken rest : List ℕ) → has_ended (fed start taken).run.session.stage ≡ true → (fed start taken).run.output ≡ script (taken ++ rest)
