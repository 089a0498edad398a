-- The example computes.
use mathlib.Core.Path.{refl}
use Rattle.store.specs.Put.{ends_after_put, sizes_after_put, store_after_put}
use Rattle.store_guarantees.specs.Example.{Example}

pub example : Example
unfolding ends_after_put sizes_after_put store_after_put
example = (refl, refl, refl)
