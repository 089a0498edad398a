-- Twenty-three words, written out, and what the inner functions make of them.
use mathlib.Core.Path.{◌≡◌, refl, ap, subst⁻¹}
use mathlib.Core.Bool.{Bool, true, false, cond, not, ◌&&◌}
use mathlib.Core.List.{List}
use Prim.Native.Nat.{ℕ, ◌+◌, ◌-◌, ◌*◌, ◌%◌}
use native.Mathlib.Omega.{arith}
use lib.Dec.{eqb, ltb}
use lib.ListN.{get_or, length, set}
use borrow.Author.Tests.{eqb-true, not-false}
use Rattle.pie.specs.DepartureRate.{rate_after}
use Rattle.pie.specs.DropDecision.{accumulated_after}
use Rattle.pie.specs.Update.{refills, updated}
use Rattle.pie.specs.Verdicts.{admitted, place_of, raised}
use Rattle.pie.specs.declared.Pie.{Pie}
use Rattle.pie.specs.declared.Verdict.{Verdict}
use Rattle.pie.specs.declared.Verdict.TheVariants.{Enqueued, Marked, DroppedBytes, DroppedSlots, DroppedEarly}
use Rattle.ring.specs.Activity.{begun}
use Rattle.ring.specs.Arrival.{arrived_state}
use Rattle.ring.specs.Departure.{departed_state}
use Rattle.ring.specs.Tick.{ticked_state}
use Rattle.pie_words.specs.Flags.{is_set}
use Rattle.ring_words.specs.Words.{restarted_words, state_of, state_words}
use Rattle.pie_words.proofs.Flags.{flag-kept, flag_off}
use Rattle.laws.proofs.Written.{listed, written_out}
use Rattle.pie_words.specs.Words.{pie_at, rate_at, rate_words, updated_words}
use Rattle.ring_steps.specs.Words.{decided_words}

-- what holds of any twenty-three words written out holds of twenty-three words
pub for-words : (P : List ℕ → Type 0) → ((f : ℕ → ℕ) → P (listed 23 f)) → (w : List ℕ) → length w ≡ 23 → P w
for-words P h w e = subst⁻¹ P (written_out 23 w e) (h (λ i. get_or w i 0))

-- a word that says no is 0
idle-flag : (word : ℕ) → is_set word ≡ false → 0 ≡ word
idle-flag word e = omega (arith, eqb-true word 0 (not-false (eqb word 0) e))

-- ── an arrival ──

-- what rules 1 to 5 leave is what was there
pub undecided : (w : List ℕ) → length w ≡ 23 → w ≡ set w 8 (get_or w 8 0)
undecided = for-words (λ w. w ≡ set w 8 (get_or w 8 0)) (λ f. refl)

-- clock and the verdict's count
abbrev pub counted_words : List ℕ → (clock place : ℕ) → List ℕ
counted_words w clock place =
    set (set w 3 clock) (16 + place) (get_or (set w 3 clock) (16 + place) 0 + 1)

-- count and bytes
abbrev pub entered_words : List ℕ → (size : ℕ) → List ℕ
entered_words w size =
    let next = set w 13 (get_or w 13 0 + 1) in set next 14 (get_or next 14 0 + size)

abbrev arrival_written : List ℕ → (clock size : ℕ) → Verdict → List ℕ
arrival_written w clock size v =
    let counted = counted_words (decided_words w v) clock (place_of v) in cond (admitted v) (entered_words counted size) counted

pub arrived-words : (clock size : ℕ) (v : Verdict) (w : List ℕ) → length w ≡ 23 →
    arrival_written w clock size v ≡ state_words w (arrived_state (state_of w) clock size v)
unfolding state_of state_words arrived_state raised
arrived-words clock size v =
    for-words (λ w. arrival_written w clock size v ≡ state_words w (arrived_state (state_of w) clock size v)) (go v)
  where
    go : (v : Verdict) (f : ℕ → ℕ) →
        arrival_written (listed 23 f) clock size v ≡ state_words (listed 23 f) (arrived_state (state_of (listed 23 f)) clock size v)
    go Enqueued f = rw (flag-kept (f 10), flag-kept (f 22))
    go Marked f = rw (flag-kept (f 10), flag-kept (f 22))
    go DroppedBytes f = rw (flag-kept (f 10), flag-kept (f 22))
    go DroppedSlots f = rw (flag-kept (f 10), flag-kept (f 22))
    go DroppedEarly f = rw (flag-kept (f 10), flag-kept (f 22))

-- ── an arrival that turns the queue active ──

module _ (clock size : ℕ) (w : List ℕ) where
  abbrev taken : Verdict → List ℕ
  taken v = state_words w (arrived_state (state_of w) clock size v)

  -- the word `active` is as it was
  pub active-kept : (v : Verdict) → get_or (taken v) 22 0 ≡ get_or w 22 0
  unfolding state_of state_words arrived_state
  active-kept v = flag-kept (get_or w 22 0)

  -- and the buffer
  pub buffer-kept : (v : Verdict) → get_or (taken v) 1 0 ≡ get_or w 1 0
  unfolding state_of state_words arrived_state
  buffer-kept v = refl

  pub restarted-words : is_set (get_or w 22 0) ≡ false → ltb (get_or w 1 0) (3 * get_or w 14 0) ≡ true → (v : Verdict) →
      restarted_words (set (taken v) 8 0) ≡ state_words w (arrived_state (begun (state_of w)) clock size v)
  unfolding state_of state_words arrived_state begun raised accumulated_after
  restarted-words e t Enqueued = rw (e, t, flag_off (get_or w 10 0))
  restarted-words e t Marked = rw (e, t, flag_off (get_or w 10 0))
  restarted-words e t DroppedBytes = rw (e, t, flag_off (get_or w 10 0))
  restarted-words e t DroppedSlots = rw (e, t, flag_off (get_or w 10 0))
  restarted-words e t DroppedEarly = rw (e, t, flag_off (get_or w 10 0))

-- ── a tick ──

-- clock and last tick
abbrev pub clocked_words : List ℕ → (clock : ℕ) → List ℕ
clocked_words w clock = set (set w 3 clock) 4 clock

-- the update by this profile
abbrev pub next_pie : (calm : Bool) → List ℕ → Pie
next_pie calm w = updated (pie_at w 5) calm (get_or w 0 0) (get_or w 14 0)

update-leaves-buffer : (next : Pie) (w : List ℕ) → length w ≡ 23 → get_or (updated_words w 5 next) 1 0 ≡ get_or w 1 0
update-leaves-buffer next = for-words (λ w. get_or (updated_words w 5 next) 1 0 ≡ get_or w 1 0) (λ f. refl)

module _ (clock : ℕ) where
  abbrev Ticked : (w after : List ℕ) → Type 0
  Ticked w after = after ≡ state_words w (ticked_state (state_of w) clock)

  pub ticked-words : (w : List ℕ) → length w ≡ 23 → is_set (get_or w 22 0) ≡ true → eqb (get_or w 21 0) 1 ≡ false →
      Ticked w (clocked_words (updated_words w 5 (next_pie false w)) clock)
  unfolding state_of state_words ticked_state updated
  ticked-words =
      for-words
      (λ w. is_set (get_or w 22 0) ≡ true → eqb (get_or w 21 0) 1 ≡ false → Ticked w (clocked_words (updated_words w 5 (next_pie false w)) clock))
      (λ f e p. rw (e, p, flag-kept (f 10)))

  -- an inactive queue's
  pub idle-words : (w : List ℕ) → length w ≡ 23 → is_set (get_or w 22 0) ≡ false → Ticked w (clocked_words w clock)
  unfolding state_of state_words ticked_state
  idle-words =
      for-words (λ w. is_set (get_or w 22 0) ≡ false → Ticked w (clocked_words w clock)) (λ f e. rw (e, flag-kept (f 10), idle-flag (f 22) e))

  -- an active calm queue's, which stays active or turns inactive
  abbrev quiet : (w : List ℕ) → Bool
  quiet w =
      let next = next_pie true w in
      refills next.prob.0 next.old.0 (get_or w 6 0) (get_or w 0 0) && not (ltb (get_or w 1 0) (3 * get_or w 14 0))

  calm-words : (w : List ℕ) → length w ≡ 23 → is_set (get_or w 22 0) ≡ true → eqb (get_or w 21 0) 1 ≡ true → quiet w ≡ false →
      Ticked w (clocked_words (updated_words w 5 (next_pie true w)) clock)
  unfolding state_of state_words ticked_state updated
  calm-words =
      for-words
      (λ w. is_set (get_or w 22 0) ≡ true → eqb (get_or w 21 0) 1 ≡ true → quiet w ≡ false →
      Ticked w (clocked_words (updated_words w 5 (next_pie true w)) clock))
      (λ f e p q. rw (e, p, q, flag-kept (f 10)))

  turned-words : (w : List ℕ) → length w ≡ 23 → is_set (get_or w 22 0) ≡ true → eqb (get_or w 21 0) 1 ≡ true → quiet w ≡ true →
      Ticked w (set (clocked_words (updated_words w 5 (next_pie true w)) clock) 22 0)
  unfolding state_of state_words ticked_state updated
  turned-words =
      for-words
      (λ w. is_set (get_or w 22 0) ≡ true → eqb (get_or w 21 0) 1 ≡ true → quiet w ≡ true →
      Ticked w (set (clocked_words (updated_words w 5 (next_pie true w)) clock) 22 0))
      (λ f e p q. rw (e, p, q, flag-kept (f 10)))

  -- the same from what the code has found
  module _ (w : List ℕ) (long : length w ≡ 23) (active : is_set (get_or w 22 0) ≡ true) (calm : eqb (get_or w 21 0) 1 ≡ true)
      (next : Pie) (ruled : next ≡ next_pie true w) (refilled : Bool)
      (found : refilled ≡ refills next.prob.0 next.old.0 (get_or w 6 0) (get_or w 0 0))
      (after : List ℕ) (written : after ≡ updated_words w 5 next) where
    -- the buffer is read past the update, which leaves it
    same : ltb (get_or after 1 0) (3 * get_or w 14 0) ≡ ltb (get_or w 1 0) (3 * get_or w 14 0)
    same = rw written (ap (λ (b : ℕ). ltb b (3 * get_or w 14 0)) (update-leaves-buffer next w long))

    pub stays-active : refilled && not (ltb (get_or after 1 0) (3 * get_or w 14 0)) ≡ false → Ticked w (clocked_words after clock)
    stays-active t = rw (written, ruled) (calm-words w long active calm (rw (found, ruled) at (rw same at t)))

    pub turns-inactive : refilled && not (ltb (get_or after 1 0) (3 * get_or w 14 0)) ≡ true → Ticked w (set (clocked_words after clock) 22 0)
    turns-inactive t = rw (written, ruled) (turned-words w long active calm (rw (found, ruled) at (rw same at t)))

-- ── a departure ──

-- clock, count, bytes and first place
abbrev pub left_words : List ℕ → (clock count queued first : ℕ) → List ℕ
left_words w clock count queued first = set (set (set (set w 3 clock) 13 count) 14 queued) 15 first

abbrev departure_written : List ℕ → (clock size : ℕ) → List ℕ
departure_written w clock size =
    let left = left_words w clock (get_or w 13 0 - 1) (get_or w 14 0 - size) ((get_or w 15 0 + 1) % get_or w 2 0) in
    rate_words left 5 (rate_after (rate_at left 5) clock size (get_or w 13 0 - 1) (get_or w 14 0 - size))

pub departed-words : (clock size : ℕ) (w : List ℕ) → length w ≡ 23 →
    departure_written w clock size ≡ state_words w (departed_state (state_of w) clock size)
unfolding state_of state_words rate_words departed_state
departed-words clock size =
    for-words (λ w. departure_written w clock size ≡ state_words w (departed_state (state_of w) clock size)) (λ f. rw (flag-kept (f 22)))

pub left-rate : (clock count queued first : ℕ) (w : List ℕ) → length w ≡ 23 → rate_at (left_words w clock count queued first) 5 ≡ rate_at w 5
left-rate clock count queued first = for-words (λ w. rate_at (left_words w clock count queued first) 5 ≡ rate_at w 5) (λ f. refl)

pub left-long : (clock count queued first : ℕ) (w : List ℕ) → length w ≡ 23 → length (left_words w clock count queued first) ≡ 23
left-long clock count queued first = for-words (λ w. length (left_words w clock count queued first) ≡ 23) (λ f. refl)
