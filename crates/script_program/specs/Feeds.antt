-- What it means that input was fed: none of it is left out, and none fed twice.
use Rattle.std.specs.Prelude.{◌≡◌, List, [], ℕ, take}
use Rattle.script.specs.Feeding.{fed, machine}
use Rattle.script.specs.Pieces.{emptied}
use Rattle.script.specs.declared.Runner.{Runner}

-- the bytes taken lead from the first runner and its tables to the second; what they write is out
abbrev pub Feeds : Runner → (handles sizes input : List ℕ) (taken : ℕ) → Runner → (h z : List ℕ) → Type 0
Feeds r handles sizes input taken s h z =
    emptied (fed (machine r handles sizes []) (take taken input)) ≡ machine s h z []

-- some bytes are taken so
pub record FeedsSome (r : Runner) (handles sizes input : List ℕ) (s : Runner) (h z : List ℕ) : Type 0 where
  pub taken : ℕ
  pub feeds : Feeds r handles sizes input taken s h z
