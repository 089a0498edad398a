-- A verdict reads the queue's own state alone, but for rule 2.
use mathlib.Core.Path.{◌≡◌, sym, ◌∙◌}
use mathlib.Core.Bool.{Bool}
use mathlib.Core.List.{List}
use Prim.Native.Nat.{ℕ}
use Rattle.pie.specs.declared.Verdict.{Verdict}
use Rattle.refusals.specs.Answer.{verdict}
use Rattle.ring.specs.Calls.{arrive}
use Rattle.pair_rules.specs.Queues.{own}
use Rattle.pair_rules.specs.declared.Pair.{Pair}
use Rattle.pair_rules.specs.declared.Which.{Which}
use Rattle.pair_rules.specs.Arrival.{arrival, slots_full, verdict_of}
use Rattle.pair_guarantees.specs.OwnStateAlone.{OwnStateAlone, SameButEnds}
use Rattle.pair_guarantees.proofs.Replies.{by_number}

-- the verdict of an accepted arrival is that of the rules
decided : (p : Pair) (w : Which) (handles sizes : List ℕ) (clock size : ℕ) (ecn : Bool) (u : ℕ) (v : Verdict) →
    (arrival p w handles sizes clock size ecn u).answer ≡ verdict v → verdict_of p w size ecn u ≡ v
decided p w handles sizes clock size ecn u v =
    by_number (λ r. r.answer ≡ verdict v → verdict_of p w size ecn u ≡ v) p w (arrive handles sizes clock 0 size ecn u)
    (λ n some given e. cc)
    (λ none e. cc)

same-rules : (p q : Pair) (w x : Which) (size : ℕ) (ecn : Bool) (u : ℕ) → SameButEnds (own w p) (own x q) →
    slots_full p w ≡ slots_full q x → verdict_of p w size ecn u ≡ verdict_of q x size ecn u
unfolding verdict_of
same-rules p q w x size ecn u same full = rw (full, same.settings, same.pie, same.backlog)

pub own-state-alone : OwnStateAlone
own-state-alone p q w x handles sizes handles' sizes' clock size ecn u v v' same full e e' =
    sym (decided p w handles sizes clock size ecn u v e)
    ∙ same-rules p q w x size ecn u same full
    ∙ decided q x handles' sizes' clock size ecn u v' e'
