-- What a call on a sound record leaves holds the record that it returns, and the tables keep their lengths.
use mathlib.Core.Path.{◌≡◌, refl, ap, sym, ◌∙◌}
use mathlib.Core.List.{List, [], ◌∷◌}
use Prim.Native.Nat.{ℕ, ◌+◌, ◌≤◌}
use native.Mathlib.Omega.{arith}
use lib.Dec.{leb}
use lib.ListN.{get_or, length, length-set}
use Rattle.laws.proofs.Choice.{at-cond}
use Rattle.pie.specs.Verdicts.{total}
use Rattle.pie.proofs.Counts.{length-raised, total-raised}
use Rattle.schedule.specs.declared.Lists.{Lists}
use Rattle.store.specs.Put.{linked, sizes_after_put}
use Rattle.store.specs.declared.Ends.{Ends}
use Rattle.fq_state.specs.State.{State}
use Rattle.fq_words.specs.Words.{flows_from, flows_of}
use Rattle.fq_words.specs.Written.{flow_words}
use Rattle.fq_state.specs.declared.Common.{Common}
use Rattle.fq_state.specs.declared.Flow.{Flow}
use Rattle.fq_rules.specs.Answer.{Answer, Reply, admits}
use Rattle.fq_rules.specs.Answer as reads
use Rattle.fq_rules.specs.Arrival.{arrived_common}
use Rattle.fq_rules.specs.Departure.{departed_common}
use Rattle.fq_words.specs.Codes.{common_after, deficits_after, flows_after, order_after, words_of}
use Rattle.fq_words.specs.Words.{common_of, lent, lists_of}
use Rattle.fq_words.specs.Written.{common_words}
use Rattle.fq_guarantees.specs.Acceptance.{acceptance}
use Rattle.fq_guarantees.specs.Calls.{Call, arrive, depart, reply, update}
use Rattle.fq_guarantees.specs.Handed.{ask_arrival, ask_departure, ask_tick, call_of}
use Rattle.fq_guarantees.specs.Kept.{Sound}
use Rattle.fq_guarantees.proofs.Kept.{kept}
use Rattle.fq_guarantees.proofs.Replies.{by_number}
use Rattle.fq_burst.specs.Calls.{asked, unknown}
use Rattle.fq_burst.specs.Calls as of-burst
use Rattle.fq_burst.specs.Burst.{Lent, after, flows_in, reply_to, state_in}

-- ── words hold what they are the words of ──

-- five counts, written out
five-out : (v : List ℕ) → length v ≡ 5 → v ≡ get_or v 0 0 ∷ get_or v 1 0 ∷ get_or v 2 0 ∷ get_or v 3 0 ∷ get_or v 4 0 ∷ []
five-out (a ∷ b ∷ c ∷ d ∷ e ∷ []) h = refl
five-out [] h = absurd (omega arith)
five-out (a ∷ []) h = absurd (omega arith)
five-out (a ∷ b ∷ []) h = absurd (omega arith)
five-out (a ∷ b ∷ c ∷ []) h = absurd (omega arith)
five-out (a ∷ b ∷ c ∷ d ∷ []) h = absurd (omega arith)
five-out (a ∷ b ∷ c ∷ d ∷ e ∷ f ∷ v) h = absurd (omega arith)

common-back : (c : Common) (l : Lists) → length c.verdicts ≡ 5 → common_of (common_words c l) ≡ c
unfolding common_of common_words
common-back c l h = rw (← (five-out c.verdicts h))

lists_back : (c : Common) (l : Lists) → lists_of (common_words c l) ≡ l
unfolding lists_of common_words
lists_back c l = refl

flows-from : (fs : List Flow) → flows_from (length fs) (flow_words fs) ≡ fs
unfolding flows_from flow_words
flows-from [] = refl
flows-from (f ∷ fs) = ap (λ (gs : List Flow). f ∷ gs) (flows-from fs)

flows-back : (fs : List Flow) → length fs ≡ 64 → flows_of (flow_words fs) ≡ fs
flows-back fs h = ap (λ (n : ℕ). flows_from n (flow_words fs)) (sym h) ∙ flows-from fs

state-back : (s : State) → length s.common.verdicts ≡ 5 → length s.flows ≡ 64 →
    lent (words_of s) s.schedule.order s.schedule.deficits (flow_words s.flows) ≡ s
state-back s v f =
    rw (common-back s.common s.schedule.lists v, lists_back s.common s.schedule.lists, flows-back s.flows f)

-- ── after a call ──

abbrev Five : Reply → Type 0
Five r = length r.state.common.verdicts ≡ 5

accepted-five : (s : State) (c : Call) → length s.common.verdicts ≡ 5 → Five (acceptance s c)
unfolding arrived_common departed_common
accepted-five s (arrive handles sizes clock key handle size ecn u) h = length-raised s.common.verdicts _ ∙ h
accepted-five s (depart handles sizes clock) h = h
accepted-five s (update clock) h = h

five : (s : State) (c : Call) → length s.common.verdicts ≡ 5 → Five (reply s c)
five s c h = by_number Five s c (λ n some given. h) (λ none. accepted-five s c h)

-- the words after a call hold the record that it returns
abbrev Holds : (common order flows deficits : List ℕ) → Reply → Type 0
Holds common order flows deficits r =
    lent (common_after r common) (order_after r order) (deficits_after r deficits) (flows_after r flows) ≡ r.state

accepted-holds : (common order flows deficits : List ℕ) (c : Call) → Sound (acceptance (lent common order deficits flows) c).state →
    Five (acceptance (lent common order deficits flows) c) → Holds common order flows deficits (acceptance (lent common order deficits flows) c)
accepted-holds common order flows deficits (arrive handles sizes clock key handle size ecn u) h v = state-back _ v h.flows_long
accepted-holds common order flows deficits (depart handles sizes clock) h v = state-back _ v h.flows_long
accepted-holds common order flows deficits (update clock) h v = state-back _ v h.flows_long

holds : (common order flows deficits : List ℕ) (c : Call) → length (common_of common).verdicts ≡ 5 → Sound (lent common order deficits flows) →
    Holds common order flows deficits (reply (lent common order deficits flows) c)
holds common order flows deficits c v h =
    let s = lent common order deficits flows in
    by_number (λ r. Sound r.state → Five r → Holds common order flows deficits r) s c
    (λ n some given z w. refl)
    (λ none z w. accepted-holds common order flows deficits c z w)
    (kept s c h) (five s c v)

five-words : (common : List ℕ) → length (common_of common).verdicts ≡ 5
unfolding common_of
five-words common = refl

-- so a burst's record stays sound
pub sound-after : (q : Lent) (c : of-burst.Call) → Sound (state_in q) → Sound (state_in (after q c))
sound-after q (asked r) h =
    let c = call_of (flows_in q) r in
    rw (holds q.common q.order q.flows q.deficits c (five-words q.common) h) (kept (state_in q) c h)
sound-after q unknown h = h

-- ── a call counts at most one verdict ──

accepted-total : (s : State) (c : Call) → total (acceptance s c).state.common.verdicts ≤ total s.common.verdicts + 1
unfolding arrived_common departed_common
accepted-total s (arrive handles sizes clock key handle size ecn u) = total-raised s.common.verdicts _
accepted-total s (depart handles sizes clock) = omega arith
accepted-total s (update clock) = omega arith

reply-total : (s : State) (c : Call) → total (reply s c).state.common.verdicts ≤ total s.common.verdicts + 1
reply-total s c =
    by_number (λ (r : Reply). total r.state.common.verdicts ≤ total s.common.verdicts + 1) s c
    (λ n some given. omega arith)
    (λ none. accepted-total s c)

left-total : (q : Lent) (c : Call) → Sound (state_in q) →
    let r = reply (state_in q) c in total (common_of (common_after r q.common)).verdicts ≤ total (common_of q.common).verdicts + 1
left-total q c h =
    let back = holds q.common q.order q.flows q.deficits c (five-words q.common) h in
    rw (ap (λ (s : State). s.common.verdicts) back) (reply-total (state_in q) c)

pub total-after : (q : Lent) (c : of-burst.Call) → Sound (state_in q) →
    total (common_of (after q c).common).verdicts ≤ total (common_of q.common).verdicts + 1
total-after q (asked r) h = left-total q (call_of (flows_in q) r) h
total-after q unknown h = omega arith

-- ── the tables keep their lengths ──

put-long : (e : Ends) (count : ℕ) (sizes : List ℕ) (place size : ℕ) → length (sizes_after_put e count sizes place size) ≡ length sizes
unfolding sizes_after_put
put-long e count sizes place size =
    length-set (linked e count sizes place) place size
    ∙ at-cond (λ (l : List ℕ). length l ≡ length sizes) (leb 1 count) (λ t. length-set sizes e.tail _) (λ t. refl)

pub after-long : (q : Lent) (c : of-burst.Call) →
    (length (after q c).handles ≡ length q.handles) × (length (after q c).sizes ≡ length q.sizes)
after-long q (asked (ask_arrival clock key handle size ecn u)) =
    let a = (reply_to q (ask_arrival clock key handle size ecn u)).answer in (
      at-cond (λ (l : List ℕ). length l ≡ length q.handles) (admits a) (λ t. length-set q.handles _ handle) (λ t. refl),
      at-cond (λ (l : List ℕ). length l ≡ length q.sizes) (admits a) (λ t. put-long _ _ q.sizes _ size) (λ t. refl),
    )
after-long q (asked (ask_departure clock)) =
    let a = (reply_to q (ask_departure clock)).answer in
    (refl, at-cond (λ (l : List ℕ). length l ≡ length q.sizes) (reads.departs a) (λ t. length-set q.sizes _ _) (λ t. refl))
after-long q (asked (ask_tick clock)) = (refl, refl)
after-long q unknown = (refl, refl)
