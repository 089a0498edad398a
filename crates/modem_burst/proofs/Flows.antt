-- A burst of one flow is a burst of any, whose number stands beside.
use mathlib.Core.Path.{◌≡◌, refl, ap, ◌∙◌}
use mathlib.Core.List.{List}
use Prim.Native.Nat.{ℕ, zero, suc}
use Rattle.bursts.specs.Burst.{Done, burst, done}
use Rattle.modem_words.specs.Lent.{Lent}
use Rattle.modem_burst.specs.Burst.{flow_bursts, modem_bursts}

module _ (flow : ℕ) (q : Lent) (calls answers : List ℕ) where
  abbrev beside : Done (flow_bursts flow) → Done modem_bursts
  beside b = done modem_bursts (flow, b.lent) b.answers

  as-any : (n : ℕ) → burst modem_bursts (flow, q) calls answers n ≡ beside (burst (flow_bursts flow) q calls answers n)
  unfolding burst
  as-any zero = refl
  as-any (suc n) = rw (as-any n) refl

  pub of-flow : (flow' : ℕ) (q' : Lent) (answers' : List ℕ) (n : ℕ) →
      done modem_bursts (flow', q') answers' ≡ burst modem_bursts (flow, q) calls answers n →
      done (flow_bursts flow) q' answers' ≡ burst (flow_bursts flow) q calls answers n
  of-flow flow' q' answers' n e = ap (λ (b : Done modem_bursts). done (flow_bursts flow) b.lent.1 b.answers) (e ∙ as-any n)
