-- An outcome by the session's stage, and what a first line leaves.
use mathlib.Core.Path.{◌≡◌, refl, ap}
use mathlib.Core.List.{List, [], append-nil}
use Prim.Native.Nat.{ℕ}
use native.Mathlib.Omega.{arith}
use Rattle.std.proofs.Common.{Option, None, Some}
use Rattle.decimal.specs.Written.{Wrote}
use Rattle.decimal.specs.declared.Output.{Output}
use Rattle.script_command.specs.declared.Command.{Command}
use Rattle.script_command.specs.declared.Command.TheVariants.{Configure, Arrival, Departure, Tick}
use Rattle.script.specs.Answering.{at_stage, first_line, later_line, outcome}
use Rattle.script.specs.declared.Session.{Session}
use Rattle.script.specs.declared.Stage.{Stage}
use Rattle.script.specs.declared.Stage.TheVariants.{First, Running, Ended}

module _ (s : Session) (handles sizes : List ℕ) (command : Option Command) where
  pub at_first : s.stage ≡ First → outcome s handles sizes command ≡ first_line s handles sizes command
  unfolding outcome
  at_first e = ap (λ (stage : Stage). at_stage stage s handles sizes command) e

  pub at-running : s.stage ≡ Running → outcome s handles sizes command ≡ later_line s handles sizes command
  unfolding outcome
  at-running e = ap (λ (stage : Stage). at_stage stage s handles sizes command) e

  pub at_ended : s.stage ≡ Ended → outcome s handles sizes command ≡ at_stage Ended s handles sizes command
  unfolding outcome
  at_ended e = ap (λ (stage : Stage). at_stage stage s handles sizes command) e

-- a first line leaves the tables
pub first-handles : (s : Session) (handles sizes : List ℕ) (command : Option Command) → handles ≡ (first_line s handles sizes command).handles
unfolding first_line
first-handles s handles sizes None = refl
first-handles s handles sizes (Some (Configure t b n)) = refl
first-handles s handles sizes (Some (Arrival c h z e u)) = refl
first-handles s handles sizes (Some (Departure c)) = refl
first-handles s handles sizes (Some (Tick c)) = refl

pub first-sizes : (s : Session) (handles sizes : List ℕ) (command : Option Command) → sizes ≡ (first_line s handles sizes command).sizes
unfolding first_line
first-sizes s handles sizes None = refl
first-sizes s handles sizes (Some (Configure t b n)) = refl
first-sizes s handles sizes (Some (Arrival c h z e u)) = refl
first-sizes s handles sizes (Some (Departure c)) = refl
first-sizes s handles sizes (Some (Tick c)) = refl

pub nothing_written : (n : ℕ) (out : Output) → Wrote n out out []
nothing_written n out = record { buffer = refl; room = refl; count = omega arith; bytes = rw append-nil; short = omega arith }
