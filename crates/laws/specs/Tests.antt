-- Lists of tests.
use Rattle.std.specs.Prelude.{Bool, true, ◌&&◌}
use mathlib.Core.List.{List, foldl}

-- every test of the list passes
abbrev pub all : List Bool → Bool
all tests = foldl ◌&&◌ true tests
