-- A call on either queue is one on the first, seen from there.
use mathlib.Core.Path.{◌≡◌, refl, sym, ◌∙◌}
use mathlib.Core.Bool.{Bool, true, false, ◌&&◌}
use Prim.Native.Nat.{ℕ, ◌+◌, ◌-◌}
use native.Mathlib.Omega.{arith}
use Rattle.laws.specs.Tests.{all}
use Rattle.pair_rules.specs.Facing.{facing}
use Rattle.pair_rules.specs.Queues.{other, own, paired}
use Rattle.pair_rules.specs.WellFormed.{both_conditions, queue_conditions, shared_conditions, well_formed}
use Rattle.pair_rules.specs.declared.Pair.{Pair}
use Rattle.pair_rules.specs.declared.Shared.{Shared}
use Rattle.pair_rules.specs.declared.State.{State}
use Rattle.pair_rules.specs.declared.Which.{Which}
use Rattle.pair_rules.specs.declared.Which.TheVariants.{Intercom, Passengers}
use Rattle.pair_rules.proofs.Facts.{parts}

-- the three records as the called queue sees them
abbrev pub seen : Which → Shared → (own other : State) → Pair
seen w s o t = paired Intercom (facing w s) o t

pub own-paired : (w : Which) (s : Shared) (o t : State) → own w (paired w s o t) ≡ o
own-paired Intercom s o t = refl
own-paired Passengers s o t = refl

pub other-paired : (w : Which) (s : Shared) (o t : State) → other w (paired w s o t) ≡ t
other-paired Intercom s o t = refl
other-paired Passengers s o t = refl

pub shared-paired : (w : Which) (s : Shared) (o t : State) → (paired w s o t).shared ≡ s
shared-paired Intercom s o t = refl
shared-paired Passengers s o t = refl

-- every pair is one, whichever queue is called
pub paired-again : (w : Which) (p : Pair) → paired w p.shared (own w p) (other w p) ≡ p
paired-again Intercom p = refl
paired-again Passengers p = refl

swapped : (a b c d : Bool) → a && (b && (c && d)) ≡ a && (c && (b && d))
swapped a true true d = refl
swapped a true false d = refl
swapped a false true d = refl
swapped a false false d = refl

-- the sums in the other order
pub sum-swapped : (a b : ℕ) → a + b ≡ b + a
sum-swapped a b = omega arith

shared-swapped : (s : Shared) → all (shared_conditions s) ≡ all (shared_conditions (facing Passengers s))
shared-swapped s = rw (sum-swapped s.reserves.intercom s.reserves.passengers)

both-swapped : (s : Shared) (o t : State) → all (both_conditions (paired Passengers s o t)) ≡ all (both_conditions (seen Passengers s o t))
both-swapped s o t =
    rw (
      sum-swapped (t.backlog.count - s.reserves.intercom) (o.backlog.count - s.reserves.passengers),
      sum-swapped s.reserves.intercom s.reserves.passengers,
      sum-swapped t.backlog.count o.backlog.count,
    )

pub well-formed-seen : (w : Which) (s : Shared) (o t : State) → well_formed (paired w s o t) ≡ well_formed (seen w s o t)
well-formed-seen Intercom s o t = refl
well-formed-seen Passengers s o t =
    let a = all (queue_conditions s.slots o) in
    let b = all (queue_conditions s.slots t) in
    parts (paired Passengers s o t)
    ∙ swapped (all (shared_conditions s)) b a (all (both_conditions (paired Passengers s o t)))
    ∙ rw (shared-swapped s, both-swapped s o t) (sym (parts (seen Passengers s o t)))
