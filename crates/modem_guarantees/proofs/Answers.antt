-- The five counts of the row follow the answers: a verdict raises its own by one, and no arrival is marked.
use mathlib.Core.Path.{◌≡◌, refl, ◌∙◌}
use mathlib.Core.Bool.{Bool, true, false, cond}
use mathlib.Core.List.{List}
use Prim.Native.Nat.{ℕ, ◌+◌}
use native.Mathlib.Omega.{arith}
use borrow.Author.Tests.{eqb-false, eqb-true}
use lib.Dec.{eqb}
use lib.ListN.{get_or, length}
use lib.Seq.{get_or-set_other, get_or-set_same}
use Rattle.laws.proofs.Choice.{either}
use Rattle.pie.specs.Constants.{most_verdicts}
use Rattle.pie.specs.Verdicts.{place_of, raised, total}
use Rattle.pie.specs.declared.Verdict.{Verdict}
use Rattle.pie.specs.declared.Verdict.TheVariants.{DroppedBytes, DroppedEarly, DroppedSlots, Enqueued, Marked}
use Rattle.pie.proofs.Counts.{length-raised, place-lt}
use Rattle.refusals.specs.Answer.{Answer, departed, made, refused, ticked, verdict}
use Rattle.docsis_pie.specs.DropDecision.{cleared, decided, drawn, drawn_with, early, enqueued_with, in_allowance, is_small, lightly_loaded}
use Rattle.docsis_pie.specs.DropDecision.{scaled_of, stays_inactive, sum_is_high, sum_is_low, summed, no_longer_inactive}
use Rattle.docsis_pie.specs.declared.Decided.{Decided}
use Rattle.docsis_pie.specs.declared.DocsisPie.{DocsisPie}
use Rattle.modem_flow.specs.declared.State.{State}
use Rattle.modem_flow.specs.Arrival.{bytes_full, decision_of, slots_full, turned_away}
use Rattle.modem_guarantees.specs.Calls.{Call, arrive, depart, reply, update}
use Rattle.modem_guarantees.specs.Conservation.{is_verdict}
use Rattle.modem_guarantees.specs.Handed.{row_after}
use Rattle.modem_guarantees.proofs.Replies.{Accepted, acceptance, at-one-reply}

-- ── one row, one answer ──

raised_at : (row : List ℕ) (v w : Verdict) → length row ≡ 5 →
    get_or (raised row w) (place_of v) 0 ≡ get_or row (place_of v) 0 + cond (eqb (place_of v) (place_of w)) 1 0
unfolding raised
raised_at row v w five = go (eqb (place_of v) (place_of w)) refl
  where
    go : (b : Bool) → eqb (place_of v) (place_of w) ≡ b → get_or (raised row w) (place_of v) 0 ≡ get_or row (place_of v) 0 + cond b 1 0
    go true e =
        let same : place_of v ≡ place_of w = eqb-true (place_of v) (place_of w) e in
        rw same (get_or-set_same row (place_of w) (get_or row (place_of w) 0 + 1) 0 (omega (arith, place-lt w)))
    go false e =
        get_or-set_other row (place_of w) (place_of v) (get_or row (place_of w) 0 + 1) 0 (eqb-false (place_of v) (place_of w) e) ∙ omega arith

-- the answers of a flow's calls are none of a fresh call's
abbrev pub IsCallAnswer : Answer → Type 0
IsCallAnswer (refused number) = Unit {0}
IsCallAnswer made = ⊥
IsCallAnswer (verdict v) = Unit {0}
IsCallAnswer (departed handle size) = Unit {0}
IsCallAnswer ticked = Unit {0}

pub counted-at : (row : List ℕ) (a : Answer) (v : Verdict) → IsCallAnswer a → length row ≡ 5 →
    get_or (row_after a row) (place_of v) 0 ≡ get_or row (place_of v) 0 + cond (is_verdict v a) 1 0
counted-at row (refused number) v is five = omega arith
counted-at row made v is five = absurd is
counted-at row (verdict w) v is five = raised_at row v w five
counted-at row (departed handle size) v is five = omega arith
counted-at row ticked v is five = omega arith

pub row-five : (row : List ℕ) (a : Answer) → length row ≡ 5 → length (row_after a row) ≡ 5
row-five row (refused number) five = five
row-five row made five = refl
row-five row (verdict v) five = length-raised row v ∙ five
row-five row (departed handle size) five = five
row-five row ticked five = five

pub call-answer : (s : State) (c : Call) → IsCallAnswer (reply s c).answer
call-answer s c = at-one-reply (λ r. IsCallAnswer r.answer) s c (λ number. tt) (go c)
  where
    go : (c : Call) → Accepted s c → IsCallAnswer (acceptance s c).answer
    go (arrive row handles sizes clock handle size u) a = tt
    go (depart row handles sizes clock) a = tt
    go (update row clock credits) a = tt

-- ── no arrival is marked ──

abbrev NotMarked : Verdict → Type 0
NotMarked v = eqb (place_of Marked) (place_of v) ≡ false

drawn-not-marked : (pie : DocsisPie) (target bytes scaled u : ℕ) → NotMarked (drawn pie target bytes scaled u)
unfolding drawn
drawn-not-marked pie target bytes scaled u =
    either NotMarked (lightly_loaded pie target) Enqueued _ refl
    (either NotMarked (is_small bytes) Enqueued _ refl
    (either NotMarked (sum_is_low pie) Enqueued _ refl
    (either NotMarked (sum_is_high pie) DroppedEarly _ refl
    (either NotMarked (early scaled u) DroppedEarly Enqueued refl refl))))

decision-not-marked : (s : State) (size u : ℕ) → NotMarked (decision_of s size u).verdict
unfolding decision_of decided drawn_with
decision-not-marked s size u =
    either P (bytes_full s size) (turned_away s DroppedBytes) _ refl
    (either P (slots_full s) (turned_away s DroppedSlots) _ refl
    (either P (in_allowance s.pie) (enqueued_with s.pie) _ refl
    (either P (stays_inactive s.pie s.settings.buffer.0 s.backlog.bytes.0) (enqueued_with (cleared s.pie)) _ refl
    (drawn-not-marked (summed (no_longer_inactive (cleared s.pie)) scaled) s.settings.target.0 s.backlog.bytes.0 scaled u))))
  where
    P : Decided → Type 0
    P d = NotMarked d.verdict

    scaled : ℕ
    scaled = scaled_of s.pie.prob.0 size

pub never-marked : (s : State) (c : Call) → is_verdict Marked (reply s c).answer ≡ false
never-marked s c = at-one-reply (λ r. is_verdict Marked r.answer ≡ false) s c (λ number. refl) (go c)
  where
    go : (c : Call) → Accepted s c → is_verdict Marked (acceptance s c).answer ≡ false
    go (arrive row handles sizes clock handle size u) a = decision-not-marked s size u
    go (depart row handles sizes clock) a = refl
    go (update row clock credits) a = refl
