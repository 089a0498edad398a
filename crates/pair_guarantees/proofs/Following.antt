-- A list of calls of both queues, as one of them sees it: while its count is below its reserve at its arrivals, it answers as it does alone
-- where rule 2 never holds.
use mathlib.Core.Path.{◌≡◌, refl, ap, subst, sym, ◌∙◌}
use mathlib.Core.Bool.{Bool, true, false, cond, true≢false}
use mathlib.Core.List.{List, [], ◌∷◌, foldl}
use Prim.Native.Nat.{ℕ, ◌<◌}
use native.Mathlib.Omega.{arith}
use borrow.Author.Tests.{lt-leb}
use Rattle.laws.specs.Every.{Every}
use Rattle.calls.specs.Traces.{entry, trace}
use Rattle.calls.specs.Requests.{Request, ask_arrival, ask_departure, ask_tick}
use Rattle.refusals.specs.Answer.{Answer}
use Rattle.pair_rules.specs.Queues.{own, reserve_of}
use Rattle.pair_rules.specs.declared.Pair.{Pair}
use Rattle.pair_rules.specs.declared.Reserves.{Reserves}
use Rattle.pair_rules.specs.declared.Shared.{Shared}
use Rattle.pair_rules.specs.declared.Which.{Which}
use Rattle.pair_rules.specs.declared.Which.TheVariants.{Intercom, Passengers}
use Rattle.pair_rules.specs.Arrival.{slots_full}
use Rattle.pair_guarantees.specs.Handed.{Call, Queues, after, reply_to, returned, same, two_queues}
use Rattle.pair_guarantees.specs.Isolation.{BelowReserve, answers_in, is_arrival, own_calls}
use Rattle.pair_guarantees.proofs.Alone.{View, alone_reply}
use Rattle.pair_guarantees.proofs.Chained.{the_other}
use Rattle.pair_guarantees.proofs.QueueKeeps.{of-both, whole-kept}
use Rattle.pair_guarantees.proofs.Refines.{Step, steps}
use Rattle.pair_guarantees.proofs.Whole.{Whole, view_of}

-- ── the queue alone, with room always ──

abbrev pub alone_answers : View → List Request → List Answer
alone_answers v [] = []
alone_answers v (r ∷ rs) = (alone_reply v false r).answer ∷ alone_answers (alone_reply v false r).view rs

abbrev pub alone_after : View → List Request → View
alone_after v [] = v
alone_after v (r ∷ rs) = alone_after (alone_reply v false r).view rs

-- its count is below this number at each arrival
abbrev pub BelowAlone : (reserve : ℕ) → View → List Request → Type 0
BelowAlone reserve v [] = Unit {0}
BelowAlone reserve v (r ∷ rs) =
    (is_arrival r ≡ true → v.state.backlog.count < reserve) × BelowAlone reserve (alone_reply v false r).view rs

-- only an arrival reads rule 2
pub room-told : (v : View) (full : Bool) (r : Request) → (is_arrival r ≡ true → full ≡ false) → alone_reply v full r ≡ alone_reply v false r
room-told v full (ask_arrival clock handle size ecn u) k = rw (k refl)
room-told v full (ask_departure clock) k = refl
room-told v full (ask_tick clock) k = refl

-- ── one call ──

-- rule 2 does not hold below the reserve
below-room : (w : Which) (p : Pair) → (own w p).backlog.count < reserve_of w p.shared → slots_full p w ≡ false
below-room w p h = rw (lt-leb (reserve_of w p.shared) (own w p).backlog.count h)

own-step : (w : Which) (q : Queues) (r : Request) → Whole q →
    (is_arrival r ≡ true → (own w q.pair).backlog.count < reserve_of w q.pair.shared) →
    Step w q (returned q w r (reply_to q w r)) (reply_to q w r).answer (alone_reply (view_of w q) false r)
own-step w q r h below =
    subst (Step w q (returned q w r (reply_to q w r)) (reply_to q w r).answer)
    (room-told (view_of w q) (slots_full q.pair w) r (λ a. below-room w q.pair (below a)))
    (steps w q r h)

kept-reserve : (w : Which) (s t : Shared) → s.reserves ≡ t.reserves → reserve_of w s ≡ reserve_of w t
kept-reserve Intercom s t e = ap (λ (r : Reserves). r.intercom) e
kept-reserve Passengers s t e = ap (λ (r : Reserves). r.passengers) e

same-own : (w : Which) → same w w ≡ true
same-own Intercom = refl
same-own Passengers = refl

same-other : (w : Which) → same (the_other w) w ≡ false
same-other Intercom = refl
same-other Passengers = refl

-- ── any calls ──

pub record Follows (w : Which) (q : Queues) (calls : List Call) : Type 0 where
  pub below : Every (BelowReserve w) (trace two_queues q calls)
  pub answers : answers_in w q calls ≡ alone_answers (view_of w q) (own_calls w calls)
  pub view : view_of w (foldl after q calls) ≡ alone_after (view_of w q) (own_calls w calls)

abbrev Below : (w : Which) (n : ℕ) → Queues → List Call → Type 0
Below w n q calls = BelowAlone n (view_of w q) (own_calls w calls)

-- with one call in front
abbrev Goes : (w : Which) (n : ℕ) → Queues → Call → List Call → Type 0
Goes w n q c calls =
    reserve_of w q.pair.shared ≡ n →
    (reserve_of w (after q c).pair.shared ≡ n → Below w n (after q c) calls → Follows w (after q c) calls) →
    Below w n q (c ∷ calls) → Follows w q (c ∷ calls)

own-goes : (n : ℕ) (q : Queues) (c : Call) (calls : List Call) → Whole q → Goes c.queue n q c calls
own-goes n q c calls h e rest below =
    let w = c.queue in
    let r = c.asked in
    let yes = same-own w in
    let b : BelowAlone n (view_of w q) (r ∷ own_calls w calls) =
    subst (λ (t : Bool). BelowAlone n (view_of w q) (cond t (r ∷ own_calls w calls) (own_calls w calls))) yes below in
    let s = own-step w q r h (λ a. let l = b.0 a in omega arith) in
    let f =
    rest (kept-reserve w _ _ s.reserves ∙ e) (subst (λ v. BelowAlone n v (own_calls w calls)) (sym s.view) b.1) in
    record {
      below = ((λ mine a. let l = b.0 a in omega arith), f.below);
      answers =
          rw yes (cc (s.answer, f.answers ∙ ap (λ v. alone_answers v (own_calls w calls)) s.view));
      view = rw yes (f.view ∙ ap (λ v. alone_after v (own_calls w calls)) s.view);
    }

other_goes : (n : ℕ) (q : Queues) (c : Call) (calls : List Call) → Whole q → Goes (the_other c.queue) n q c calls
other_goes n q c calls h e rest below =
    let w = the_other c.queue in
    let no = same-other c.queue in
    let s = steps c.queue q c.asked h in
    let b : BelowAlone n (view_of w q) (own_calls w calls) =
    subst (λ (t : Bool). BelowAlone n (view_of w q) (cond t (c.asked ∷ own_calls w calls) (own_calls w calls))) no below in
    let f =
    rest (kept-reserve w _ _ s.reserves ∙ e) (subst (λ v. BelowAlone n v (own_calls w calls)) (sym s.others) b) in
    record {
      below = ((λ mine a. absurd (true≢false (sym mine ∙ no))), f.below);
      answers = rw no (f.answers ∙ ap (λ v. alone_answers v (own_calls w calls)) s.others);
      view = rw no (f.view ∙ ap (λ v. alone_after v (own_calls w calls)) s.others);
    }

pub follows : (w : Which) (n : ℕ) (q : Queues) (calls : List Call) → Whole q → reserve_of w q.pair.shared ≡ n →
    BelowAlone n (view_of w q) (own_calls w calls) → Follows w q calls
follows w n q [] h e below = record { below = tt; answers = refl; view = refl }
follows w n q (c ∷ calls) h e below =
    of-both (λ any. Goes any n q c calls) c.queue (own-goes n q c calls h) (other_goes n q c calls h) w e
    (λ e' b. follows w n (after q c) calls (whole-kept q c h) e' b) below

-- ── below its reserve in the pair's list of calls, it is below it alone ──

abbrev GoesBelow : (w : Which) (n : ℕ) → Queues → Call → List Call → Type 0
GoesBelow w n q c calls =
    reserve_of w q.pair.shared ≡ n →
    (reserve_of w (after q c).pair.shared ≡ n → Below w n (after q c) calls) →
    BelowReserve w (entry two_queues q c) → Below w n q (c ∷ calls)

own_below : (n : ℕ) (q : Queues) (c : Call) (calls : List Call) → Whole q → GoesBelow c.queue n q c calls
own_below n q c calls h e rest below =
    let w = c.queue in
    let r = c.asked in
    let yes = same-own w in
    let s = own-step w q r h (λ a. let l = below yes a in omega arith) in
    let b = rest (kept-reserve w _ _ s.reserves ∙ e) in
    subst (λ (t : Bool). BelowAlone n (view_of w q) (cond t (r ∷ own_calls w calls) (own_calls w calls))) (sym yes) (
      (λ a. let l = below yes a in omega arith),
      subst (λ v. BelowAlone n v (own_calls w calls)) s.view b,
    )

other-below : (n : ℕ) (q : Queues) (c : Call) (calls : List Call) → Whole q → GoesBelow (the_other c.queue) n q c calls
other-below n q c calls h e rest below =
    let w = the_other c.queue in
    let s = steps c.queue q c.asked h in
    let b = rest (kept-reserve w _ _ s.reserves ∙ e) in
    subst (λ (t : Bool). BelowAlone n (view_of w q) (cond t (c.asked ∷ own_calls w calls) (own_calls w calls))) (sym (same-other c.queue))
    (subst (λ v. BelowAlone n v (own_calls w calls)) s.others b)

pub below-alone : (w : Which) (n : ℕ) (q : Queues) (calls : List Call) → Whole q → reserve_of w q.pair.shared ≡ n →
    Every (BelowReserve w) (trace two_queues q calls) → BelowAlone n (view_of w q) (own_calls w calls)
below-alone w n q [] h e below = tt
below-alone w n q (c ∷ calls) h e below =
    of-both (λ any. GoesBelow any n q c calls) c.queue (own_below n q c calls h) (other-below n q c calls h) w e
    (λ e'. below-alone w n (after q c) calls (whole-kept q c h) e' below.1) below.0
