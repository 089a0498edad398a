-- A verdict reads the arrival's own flow alone, but for rules 1 and 2.
use mathlib.Core.Path.{◌≡◌, sym, ap, ◌∙◌}
use mathlib.Core.Bool.{Bool}
use mathlib.Core.List.{List}
use Prim.Native.Nat.{ℕ}
use Rattle.pie.specs.declared.Verdict.{Verdict}
use Rattle.hash.specs.OneAtATime.{flow_of}
use Rattle.fq_state.specs.Flow.{pie_of}
use Rattle.fq_state.specs.State.{State}
use Rattle.fq_state.specs.declared.Common.{Common}
use Rattle.fq_state.specs.declared.Flow.{Flow}
use Rattle.fq_rules.specs.Answer.{verdict}
use Rattle.fq_rules.specs.Arrival.{arrival, flow_number, slots_full, verdict_of}
use Rattle.fq_guarantees.specs.Calls.{arrive}
use Rattle.fq_guarantees.specs.OwnFlowAlone.{OwnFlowAlone}
use Rattle.fq_guarantees.specs.Shedding.{own}
use Rattle.fq_guarantees.proofs.Replies.{by_number}

-- the verdict of an accepted arrival is that of the rules
decided : (s : State) (handles sizes : List ℕ) (clock : ℕ) (key : List ℕ) (size : ℕ) (ecn : Bool) (u : ℕ) (v : Verdict) →
    (arrival s handles sizes clock key size ecn u).answer ≡ verdict v →
    verdict_of s.common (own (flow_number s key) s) size ecn u ≡ v
decided s handles sizes clock key size ecn u v =
    by_number (λ r. r.answer ≡ verdict v → verdict_of s.common (own (flow_number s key) s) size ecn u ≡ v) s
    (arrive handles sizes clock key 0 size ecn u)
    (λ n some given e. cc)
    (λ none e. cc)

same-rules : (c d : Common) (f g : Flow) (size : ℕ) (ecn : Bool) (u : ℕ) → c.settings.target ≡ d.settings.target →
    c.settings.buffer ≡ d.settings.buffer → c.backlog.bytes ≡ d.backlog.bytes → slots_full c ≡ slots_full d →
    pie_of f ≡ pie_of g → f.bytes ≡ g.bytes → verdict_of c f size ecn u ≡ verdict_of d g size ecn u
unfolding verdict_of
same-rules c d f g size ecn u target buffer total full pie bytes = rw (full, target, buffer, total, pie, bytes)

pub own-flow-alone : OwnFlowAlone
own-flow-alone a b handles sizes handles' sizes' clock key size ecn u v v' same e e' =
    let i = flow_number a key in
    let number : i ≡ flow_number b key = ap (flow_of key) same.salt in
    sym (decided a handles sizes clock key size ecn u v e)
    ∙ same-rules a.common b.common (own i a) (own i b) size ecn u same.target same.buffer same.total_bytes same.full
    same.pie same.bytes
    ∙ ap (λ j. verdict_of b.common (own j b) size ecn u) number
    ∙ decided b handles' sizes' clock key size ecn u v' e'
