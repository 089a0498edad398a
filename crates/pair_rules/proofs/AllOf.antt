-- Lists of tests, one after the other.
use mathlib.Core.Path.{◌≡◌, refl, ◌∙◌}
use mathlib.Core.Bool.{Bool, true, false, ◌&&◌}
use mathlib.Core.List.{List, [], ◌∷◌, ◌++◌, foldl}
use Rattle.laws.specs.Tests.{all}

none_of : (tests : List Bool) → foldl ◌&&◌ false tests ≡ false
none_of [] = refl
none_of (t ∷ tests) = none_of tests

from : (a : Bool) (tests : List Bool) → foldl ◌&&◌ a tests ≡ (a && all tests)
from true tests = refl
from false tests = none_of tests

joined : (a : Bool) (first second : List Bool) → foldl ◌&&◌ a (first ++ second) ≡ foldl ◌&&◌ (foldl ◌&&◌ a first) second
joined a [] second = refl
joined a (t ∷ first) second = joined (a && t) first second

pub all_append : (first second : List Bool) → all (first ++ second) ≡ (all first && all second)
all_append first second = joined true first second ∙ from (all first) second
