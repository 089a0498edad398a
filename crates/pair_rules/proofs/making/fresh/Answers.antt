-- `fresh`: refusal 1, or the fresh records.
use mathlib.Core.Path.{◌≡◌, sym, ◌∙◌}
use mathlib.Core.Bool.{Bool, true, false, cond}
use Rattle.std.proofs.Common.{Ok, Err}
use Rattle.refusals.specs.Answer.{accepted_answer, made, refused}
use Rattle.refusals.specs.declared.Refusal.{Refusal}
use Rattle.refusals.specs.declared.Refusal.TheVariants.{Settings}
use Rattle.pair_rules.specs.Answer.{Reply}
use Rattle.pair_rules.specs.Fresh.{fresh}
use Rattle.pair_rules.specs.declared.Pair.{Pair}
use Rattle.pair_rules.proofs.making.fresh.Goals as goal

abbrev answered : Bool → (zeros made' : Pair) → Reply
answered b z p = cond b (record { answer = refused 1; pair = z }) (record { answer = made; pair = p })

of_made : (b : Bool) (z p q : Pair) → Ok q ≡ cond b (Err Settings) (Ok p) → record { answer = made; pair = q } ≡ answered b z p
of_made true z p q e = cc
of_made false z p q e = cc

of_refused : (b : Bool) (z p : Pair) (r : Refusal) → Err r ≡ cond b (Err Settings) (Ok p) →
    record { answer = accepted_answer (Err r) made; pair = z } ≡ answered b z p
of_refused true z p r e = cc
of_refused false z p r e = cc

pub returns-in-Ok : goal.returns-in-Ok
unfolding fresh
returns-in-Ok c = of_made _ _ _ _ (sym c.in-Ok.is ∙ c.checked.ensures)

pub returns-in-Err : goal.returns-in-Err
unfolding fresh
returns-in-Err c = rw c.zeros.ensures (of_refused _ _ _ _ (sym c.in-Err.is ∙ c.checked.ensures))
