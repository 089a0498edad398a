-- Twenty-one words, written out, and what the inner functions make of them.
use mathlib.Core.Path.{◌≡◌, refl, subst⁻¹, sym, ◌∙◌}
use mathlib.Core.Bool.{Bool, true, false, cond, ◌&&◌, false≢true}
use mathlib.Core.List.{List}
use Prim.Native.Nat.{ℕ, ◌+◌, ◌-◌, ◌≤◌, ◌<◌}
use native.Mathlib.Omega.{arith}
use lib.Dec.{eqb, leb}
use lib.ListN.{get_or, length, set}
use lib.Seq.{get_or-set_other}
use borrow.Author.Tests.{lt-leb}
use Rattle.pie.specs.DepartureRate.{rate_after}
use Rattle.pie.specs.Update.{updated}
use Rattle.pie.specs.Verdicts.{admitted, place_of, raised}
use Rattle.pie.specs.declared.Verdict.{Verdict}
use Rattle.pie.specs.declared.Verdict.TheVariants.{Enqueued, Marked, DroppedBytes, DroppedSlots, DroppedEarly}
use Rattle.store.specs.Following.{followed, link_refused}
use Rattle.store.specs.Put.{ends_after_put, free_place, store_after_put}
use Rattle.store.specs.Take.{store_after_take}
use Rattle.store.specs.Words.{link_at}
use Rattle.pair_rules.specs.Queues.{storing}
use Rattle.pair_rules.specs.Arrival.{arrived_pie, arrived_state}
use Rattle.pair_rules.specs.Departure.{departed_state}
use Rattle.pair_rules.specs.Tick.{ticked_state}
use Rattle.pair_words.specs.Words.{shared_of, shared_words, state_of, state_words, store_of}
use Rattle.pie_words.proofs.Flags.{flag-kept}
use Rattle.laws.proofs.Written.{listed, written_out}
use Rattle.pie_words.specs.Words.{pie_at, rate_at, rate_words, updated_words}
use Rattle.pair_steps.specs.Written.{entered_words, settled_words}

-- what holds of any twenty-one words written out holds of twenty-one words
pub for-words : (P : List ℕ → Type 0) → ((f : ℕ → ℕ) → P (listed 21 f)) → (w : List ℕ) → length w ≡ 21 → P w
for-words P h w e = subst⁻¹ P (written_out 21 w e) (h (λ i. get_or w i 0))

pub for-shared : (P : List ℕ → Type 0) → ((f : ℕ → ℕ) → P (listed 6 f)) → (w : List ℕ) → length w ≡ 6 → P w
for-shared P h w e = subst⁻¹ P (written_out 6 w e) (h (λ i. get_or w i 0))

-- ── a departure ──

-- clock, count, bytes and head
abbrev pub left_words : List ℕ → (clock size head : ℕ) → List ℕ
left_words w clock size head = set (set (set (set w 2 clock) 12 (get_or w 12 0 - 1)) 13 (get_or w 13 0 - size)) 14 head

abbrev departure_written : List ℕ → (sizes : List ℕ) (clock size : ℕ) → List ℕ
departure_written w sizes clock size =
    let left = left_words w clock size (followed sizes (get_or w 14 0) (get_or w 12 0)) in
    rate_words left 4 (rate_after (rate_at left 4) clock size (get_or w 12 0 - 1) (get_or w 13 0 - size))

pub departed-words : (sizes : List ℕ) (clock size : ℕ) (w : List ℕ) → length w ≡ 21 →
    departure_written w sizes clock size ≡ state_words w (departed_state (state_of w) sizes clock size)
unfolding state_of state_words rate_words departed_state
departed-words sizes clock size =
    for-words (λ w. departure_written w sizes clock size ≡ state_words w (departed_state (state_of w) sizes clock size)) (λ f. refl)

pub left-rate : (clock size head : ℕ) (w : List ℕ) → length w ≡ 21 → rate_at (left_words w clock size head) 4 ≡ rate_at w 4
left-rate clock size head = for-words (λ w. rate_at (left_words w clock size head) 4 ≡ rate_at w 4) (λ f. refl)

pub left-long : (clock size head : ℕ) (w : List ℕ) → length w ≡ 21 → length (left_words w clock size head) ≡ 21
left-long clock size head = for-words (λ w. length (left_words w clock size head) ≡ 21) (λ f. refl)

-- the store's words: freed, spare
abbrev pub taken_words : List ℕ → (head : ℕ) → List ℕ
taken_words w head = let next = set w 4 head in set next 5 (get_or next 5 0 + 1)

pub taken-words : (head : ℕ) (w : List ℕ) → length w ≡ 6 →
    taken_words w head ≡ shared_words (storing (shared_of w) (store_after_take (shared_of w).store head))
unfolding shared_of shared_words
taken-words head =
    for-shared (λ w. taken_words w head ≡ shared_words (storing (shared_of w) (store_after_take (shared_of w).store head))) (λ f. refl)

-- ── an arrival ──

-- the counts stand past clock and accumulated probability
pub past-early : (w : List ℕ) (a b at : ℕ) → 16 ≤ at → get_or (set (set w 2 a) 7 b) at 0 ≡ get_or w at 0
past-early w a b at h = get_or-set_other (set w 2 a) 7 at b 0 (λ x. omega arith) ∙ get_or-set_other w 2 at a 0 (λ x. omega arith)

-- and past the words of a packet that enters
pub past-entered : (size place : ℕ) (v : Verdict) (w : List ℕ) → length w ≡ 21 →
    get_or (entered_words w size place) (16 + place_of v) 0 ≡ get_or w (16 + place_of v) 0
past-entered size place v = for-words (λ w. get_or (entered_words w size place) (16 + place_of v) 0 ≡ get_or w (16 + place_of v) 0) (go v)
  where
    go : (v : Verdict) (f : ℕ → ℕ) →
        get_or (entered_words (listed 21 f) size place) (16 + place_of v) 0 ≡ get_or (listed 21 f) (16 + place_of v) 0
    go Enqueued f = refl
    go Marked f = refl
    go DroppedBytes f = refl
    go DroppedSlots f = refl
    go DroppedEarly f = refl

-- where the head stays
pub same_head : (w : List ℕ) → length w ≡ 21 → w ≡ set w 14 (get_or w 14 0)
same_head = for-words (λ w. w ≡ set w 14 (get_or w 14 0)) (λ f. refl)

-- the other words of a packet that enters, after the head: count, bytes and tail
abbrev pub queued_words : (words : List ℕ) (count size place : ℕ) → List ℕ
queued_words w count size place = let counted = set w 12 (count + 1) in set (set counted 13 (get_or counted 13 0 + size)) 15 place

pub queued-words : (size place : ℕ) (w : List ℕ) → length w ≡ 21 →
    queued_words (set w 14 (cond (eqb (get_or w 12 0) 0) place (get_or w 14 0))) (get_or w 12 0) size place ≡ entered_words w size place
unfolding ends_after_put
queued-words size place =
    for-words
    (λ w. queued_words (set w 14 (cond (eqb (get_or w 12 0) 0) place (get_or w 14 0))) (get_or w 12 0) size place ≡ entered_words w size place)
    (λ f. refl)

-- the bytes stand beside head and count
pub past-count : (w : List ℕ) (head count : ℕ) → get_or (set (set w 14 head) 12 count) 13 0 ≡ get_or w 13 0
past-count w head count =
    get_or-set_other (set w 14 head) 12 13 count 0 (λ x. omega arith) ∙ get_or-set_other w 14 13 head 0 (λ x. omega arith)

abbrev pub settled : (w base : List ℕ) (clock : ℕ) → Verdict → List ℕ
settled w base clock v = settled_words w clock (arrived_pie (state_of base) v).accumulated.0 v

pub dropped-words : (clock size place : ℕ) (v : Verdict) → admitted v ≡ false → (w : List ℕ) → length w ≡ 21 →
    settled w w clock v ≡ state_words w (arrived_state (state_of w) clock size place v)
unfolding state_of state_words arrived_state raised
dropped-words clock size place v e =
    for-words (λ w. settled w w clock v ≡ state_words w (arrived_state (state_of w) clock size place v)) (go v e)
  where
    go : (v : Verdict) → admitted v ≡ false → (f : ℕ → ℕ) →
        settled (listed 21 f) (listed 21 f) clock v ≡ state_words (listed 21 f) (arrived_state (state_of (listed 21 f)) clock size place v)
    go Enqueued e f = absurd (false≢true (sym e))
    go Marked e f = absurd (false≢true (sym e))
    go DroppedBytes e f = rw (flag-kept (f 9))
    go DroppedSlots e f = rw (flag-kept (f 9))
    go DroppedEarly e f = rw (flag-kept (f 9))

pub admitted-words : (clock size place : ℕ) (v : Verdict) → admitted v ≡ true → (w : List ℕ) → length w ≡ 21 →
    settled (entered_words w size place) w clock v ≡ state_words w (arrived_state (state_of w) clock size place v)
unfolding state_of state_words arrived_state raised
admitted-words clock size place v e =
    for-words (λ w. settled (entered_words w size place) w clock v ≡ state_words w (arrived_state (state_of w) clock size place v)) (go v e)
  where
    go : (v : Verdict) → admitted v ≡ true → (f : ℕ → ℕ) →
        settled (entered_words (listed 21 f) size place) (listed 21 f) clock v
        ≡ state_words (listed 21 f) (arrived_state (state_of (listed 21 f)) clock size place v)
    go Enqueued e f = rw (flag-kept (f 9))
    go Marked e f = rw (flag-kept (f 9))
    go DroppedBytes e f = absurd (false≢true e)
    go DroppedSlots e f = absurd (false≢true e)
    go DroppedEarly e f = absurd (false≢true e)

-- the store's words: used where no slot is spare
pub fresh-words : (sizes w : List ℕ) → length w ≡ 6 → get_or w 5 0 ≡ 0 →
    set w 3 (get_or w 3 0 + 1) ≡ shared_words (storing (shared_of w) (store_after_put (store_of w) sizes))
unfolding shared_of shared_words store_after_put
fresh-words sizes =
    for-shared
    (λ w. get_or w 5 0 ≡ 0 → set w 3 (get_or w 3 0 + 1) ≡ shared_words (storing (shared_of w) (store_after_put (store_of w) sizes)))
    (λ f e. rw e)

-- freed and spare where one is
pub spare-words : (sizes w : List ℕ) → length w ≡ 6 → leb 1 (get_or w 5 0) ≡ true →
    set (set w 4 (followed sizes (get_or w 4 0) (get_or w 5 0))) 5 (get_or w 5 0 - 1)
    ≡ shared_words (storing (shared_of w) (store_after_put (store_of w) sizes))
unfolding shared_of shared_words store_after_put
spare-words sizes =
    for-shared
    (λ w. leb 1 (get_or w 5 0) ≡ true → set (set w 4 (followed sizes (get_or w 4 0) (get_or w 5 0))) 5 (get_or w 5 0 - 1)
    ≡ shared_words (storing (shared_of w) (store_after_put (store_of w) sizes)))
    (λ f e. rw e)

-- the place where no slot is spare, and where one is
pub fresh-place : (w : List ℕ) → get_or w 5 0 ≡ 0 → free_place (store_of w) ≡ get_or w 3 0
fresh-place w e = rw e

pub spare-place : (w : List ℕ) → leb 1 (get_or w 5 0) ≡ true → free_place (store_of w) ≡ get_or w 4 0
spare-place w e = rw e

-- a place in range that is followed leads out of range exactly where its link does
pub link-test : (slots : ℕ) (sizes : List ℕ) (place count : ℕ) → place < slots →
    leb slots (followed sizes place count) ≡ link_refused slots sizes place count
link-test slots sizes place count h = go (leb 2 count)
  where
    go : (b : Bool) → leb slots (cond b (link_at sizes place) place) ≡ b && leb slots (link_at sizes place)
    go true = refl
    go false = lt-leb slots place h

-- a shared record and its words determine each other
pub same-shared : (w : List ℕ) → length w ≡ 6 → w ≡ shared_words (shared_of w)
unfolding shared_of shared_words
same-shared = for-shared (λ w. w ≡ shared_words (shared_of w)) (λ f. refl)

-- ── a tick ──

abbrev pub clocked_words : List ℕ → (clock : ℕ) → List ℕ
clocked_words w clock = set (set w 2 clock) 3 clock

abbrev tick_written : List ℕ → (clock : ℕ) → List ℕ
tick_written w clock =
    let next = updated (pie_at w 4) false (get_or w 0 0) (get_or w 13 0) in
    clocked_words (updated_words w 4 next) clock

pub ticked-words : (clock : ℕ) (w : List ℕ) → length w ≡ 21 → tick_written w clock ≡ state_words w (ticked_state (state_of w) clock)
unfolding state_of state_words ticked_state updated
ticked-words clock =
    for-words (λ w. tick_written w clock ≡ state_words w (ticked_state (state_of w) clock)) (λ f. rw (flag-kept (f 9)))
