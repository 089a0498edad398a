-- `last`: the bytes before the trailer.
use mathlib.Core.Path.{◌≡◌, refl}
use Prim.Native.Nat.{◌-◌, ◌*◌}
use native.Mathlib.Omega.{arith}
use lib.ListN.{length}
use Rattle.compare.proofs.longer.last.Goals as goal

pub returns : goal.returns
returns c =
    let a = c.args in
    let n = length a.log.now in
    let long : n - 16 - (n - 16 - 40 * a.records) ≡ 40 * a.records = omega arith in rw long refl
