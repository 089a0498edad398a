-- What it means that a runner has come further in its input.
use Rattle.std.specs.Prelude.{◌≡◌, List, ℕ, take}
use Rattle.script.specs.Feeding.{Machine, fed, machine}
use Rattle.script.specs.declared.Fed.{Fed}

-- from the machine m, the bytes taken lead to the runner, the tables and the bytes written
abbrev pub Follows : Machine → (input : List ℕ) → Fed → (handles sizes output : List ℕ) → Type 0
Follows m input f handles sizes output =
    fed m (take f.taken input) ≡ machine f.runner handles sizes (take f.written output)
