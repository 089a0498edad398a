-- The five counts of the state follow the answers: a verdict raises its own by one.
use mathlib.Core.Path.{◌≡◌, refl, ◌∙◌}
use mathlib.Core.Bool.{Bool, true, false, cond}
use mathlib.Core.List.{List}
use Prim.Native.Nat.{ℕ, ◌+◌}
use native.Mathlib.Omega.{arith}
use borrow.Author.Tests.{eqb-false, eqb-true}
use lib.Dec.{eqb}
use lib.ListN.{get_or, length}
use lib.Seq.{get_or-set_other, get_or-set_same}
use Rattle.pie.specs.Verdicts.{place_of, raised}
use Rattle.pie.specs.declared.Verdict.{Verdict}
use Rattle.pie.proofs.Counts.{length-raised, place-lt}
use Rattle.ring.specs.declared.State.{State}
use Rattle.ring.specs.Activity.{begun}
use Rattle.refusals.specs.Answer.{Answer, departed, made, refused, ticked, verdict}
use Rattle.ring.specs.Arrival.{arrived_state}
use Rattle.ring.specs.Departure.{departed_state}
use Rattle.ring.specs.Tick.{ticked_state}
use Rattle.ring.specs.Calls.{Call, reply}
use Rattle.ring_guarantees.specs.Conservation.{is_verdict}
use Rattle.ring_guarantees.proofs.Replies.{at-reply}

-- the counts after this answer
abbrev pub counted_by : Answer → List ℕ → List ℕ
counted_by (refused number) counts = counts
counted_by made counts = counts
counted_by (verdict v) counts = raised counts v
counted_by (departed handle size) counts = counts
counted_by ticked counts = counts

reply-counts : (s : State) (c : Call) → (reply s c).state.verdicts ≡ counted_by (reply s c).answer s.verdicts
unfolding arrived_state begun departed_state ticked_state
reply-counts s =
    at-reply s (λ c r. r.state.verdicts ≡ counted_by r.answer s.verdicts)
    (λ c number. refl)
    (λ handles sizes clock handle size ecn u a. refl)
    (λ handles sizes clock a. refl)
    (λ clock a. refl)

raised_at : (counts : List ℕ) (v w : Verdict) → length counts ≡ 5 →
    get_or (raised counts w) (place_of v) 0 ≡ get_or counts (place_of v) 0 + cond (eqb (place_of v) (place_of w)) 1 0
unfolding raised
raised_at counts v w five = go (eqb (place_of v) (place_of w)) refl
  where
    go : (b : Bool) → eqb (place_of v) (place_of w) ≡ b →
        get_or (raised counts w) (place_of v) 0 ≡ get_or counts (place_of v) 0 + cond b 1 0
    go true e =
        let same : place_of v ≡ place_of w = eqb-true (place_of v) (place_of w) e in
        rw same (get_or-set_same counts (place_of w) (get_or counts (place_of w) 0 + 1) 0 (omega (arith, place-lt w)))
    go false e =
        get_or-set_other counts (place_of w) (place_of v) (get_or counts (place_of w) 0 + 1) 0 (eqb-false (place_of v) (place_of w) e) ∙ omega arith

pub counted-at : (counts : List ℕ) (a : Answer) (v : Verdict) → length counts ≡ 5 →
    get_or (counted_by a counts) (place_of v) 0 ≡ get_or counts (place_of v) 0 + cond (is_verdict v a) 1 0
counted-at counts (refused number) v five = omega arith
counted-at counts made v five = omega arith
counted-at counts (verdict w) v five = raised_at counts v w five
counted-at counts (departed handle size) v five = omega arith
counted-at counts ticked v five = omega arith

pub length-counted : (counts : List ℕ) (a : Answer) → length (counted_by a counts) ≡ length counts
length-counted counts (refused number) = refl
length-counted counts made = refl
length-counted counts (verdict v) = length-raised counts v
length-counted counts (departed handle size) = refl
length-counted counts ticked = refl

-- a reply raises the count of its verdict by one, and changes no other
pub reply-counted : (s : State) (c : Call) (v : Verdict) → length s.verdicts ≡ 5 →
    get_or (reply s c).state.verdicts (place_of v) 0 ≡ get_or s.verdicts (place_of v) 0 + cond (is_verdict v (reply s c).answer) 1 0
reply-counted s c v five = rw (reply-counts s c) (counted-at s.verdicts (reply s c).answer v five)

pub reply-five : (s : State) (c : Call) → length s.verdicts ≡ 5 → length (reply s c).state.verdicts ≡ 5
reply-five s c five = rw (reply-counts s c) (length-counted s.verdicts (reply s c).answer ∙ five)
