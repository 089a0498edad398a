-- `delay::time`: a quotient of two products with the same factor is that without it.
use mathlib.Core.Path.{◌≡◌, ap, ◌∙◌}
use Prim.Native.Nat.{ℕ, ◌*◌, ◌/◌}
use native.Mathlib.Nat.{div-div-eq-div-mul, mul-div-mul_right}
use native.Mathlib.Omega.{arith}
use Rattle.docsis_pie.proofs.queueing_delay.time.Goals as goal

same : (n r : ℕ) → n * 8192000000 / r / 8192 ≡ n * 1000000 / r
same n r =
    div-div-eq-div-mul (n * 8192000000) r 8192
    ∙ ap (λ m. m / (r * 8192)) product
    ∙ mul-div-mul_right {m = 8192} (n * 1000000) r (omega arith)
  where
    product : n * 8192000000 ≡ n * 1000000 * 8192
    product = omega arith

pub returns : goal.returns
returns c = same c.before.args.n c.before.args.rate.0
