-- An arrival's words by the place of its verdict.
use mathlib.Core.Path.{◌≡◌, refl, ap, sym, ◌∙◌}
use mathlib.Core.Bool.{Bool, true, false}
use mathlib.Core.Logic.{◌≢◌}
use mathlib.Core.List.{List}
use Prim.Native.Nat.{ℕ, ◌+◌, ◌*◌, ◌≤◌, ◌<◌}
use native.Mathlib.Omega.{arith}
use lib.Dec.{ltb}
use lib.ListN.{get_or, length, set}
use lib.Seq.{get_or-set_other}
use Rattle.pie.specs.Constants.{most_verdicts}
use Rattle.pie.specs.Verdicts.{admitted, place_of, total}
use Rattle.pie.specs.declared.Verdict.{Verdict}
use Rattle.pie.specs.declared.Verdict.TheVariants.{Enqueued, Marked, DroppedBytes, DroppedSlots, DroppedEarly}
use Rattle.pie.proofs.Counts.{count-le-total}
use Rattle.ring.specs.Activity.{begun, turns_active}
use Rattle.ring.specs.Arrival.{arrived_state}
use Rattle.ring.proofs.Activation.{begun-same}
use Rattle.pie_words.specs.Flags.{is_set}
use Rattle.ring_words.specs.Words.{restarted_words, state_of, state_words}
use Rattle.ring_words.proofs.Words.{count_word}
use Rattle.ring_steps.specs.Words.{decided_words}
use Rattle.ring_steps.proofs.Words.{active-kept, arrived-words, buffer-kept, counted_words, entered_words, restarted-words}

-- enqueued and marked come first
admitted-place : (v : Verdict) → ltb (place_of v) 2 ≡ admitted v
admitted-place Enqueued = refl
admitted-place Marked = refl
admitted-place DroppedBytes = refl
admitted-place DroppedSlots = refl
admitted-place DroppedEarly = refl

module _ (v : Verdict) (place : ℕ) (e : place ≡ place_of v) where
  pub admits-as : (b : Bool) → ltb place 2 ≡ b → admitted v ≡ b
  admits-as b t = sym (admitted-place v) ∙ ap (λ (n : ℕ). ltb n 2) (sym e) ∙ t

  -- the words w after the rules have decided are d
  module _ (w d : List ℕ) (k : d ≡ decided_words w v) (clock size : ℕ) where
    pub entered-ok : length w ≡ 23 → ltb place 2 ≡ true →
        entered_words (counted_words d clock place) size ≡ state_words w (arrived_state (state_of w) clock size v)
    entered-ok l t = rw (k, e) (rw (admits-as true t) at (arrived-words clock size v w l))

    pub counted-ok : length w ≡ 23 → ltb place 2 ≡ false →
        counted_words d clock place ≡ state_words w (arrived_state (state_of w) clock size v)
    counted-ok l t = rw (k, e) (rw (admits-as false t) at (arrived-words clock size v w l))

    -- the verdict's count can rise
    pub count_low : total (state_of w).verdicts + 1 ≤ most_verdicts → get_or (set d 3 clock) (16 + place) 0 < most_verdicts
    count_low h =
        rw (k, get_or-set_other (decided_words w v) 3 (16 + place) clock 0 (λ e. omega arith), get_or-set_other w 8 (16 + place) _ 0 (λ e. omega arith), e)
        (omega (arith, count-le-total (state_of w).verdicts (place_of v), count_word w v))

-- the words below the counts, but for clock and accumulated probability, are read as they were
module _ (w d : List ℕ) (x : ℕ) (k : d ≡ set w 8 x) (clock place count : ℕ) where
  pub past : (i : ℕ) → i < 16 → i ≢ 3 → i ≢ 8 → get_or (set (set d 3 clock) (16 + place) count) i 0 ≡ get_or w i 0
  past i h n m =
      get_or-set_other (set d 3 clock) (16 + place) i count 0 (λ e. omega arith)
      ∙ get_or-set_other d 3 i clock 0 n
      ∙ ap (λ (l : List ℕ). get_or l i 0) k
      ∙ get_or-set_other w 8 i x 0 m

  pub past_bytes : (n : ℕ) → get_or (set (set (set d 3 clock) (16 + place) count) 13 n) 14 0 ≡ get_or w 14 0
  past_bytes n =
      get_or-set_other (set (set d 3 clock) (16 + place) count) 13 14 n 0 (λ e. omega arith) ∙ past 14 (omega arith) (omega arith) (omega arith)

-- the words d of the rules on the state as it is given, and whether the queue turns active
module _ (clock size : ℕ) (v : Verdict) (w d : List ℕ) (k : d ≡ state_words w (arrived_state (state_of w) clock size v)) where
  abbrev Begun : List ℕ → Type 0
  Begun after = after ≡ state_words w (arrived_state (begun (state_of w)) clock size v)

  stays : turns_active (state_of w) ≡ false → Begun d
  stays e = rw (begun-same (state_of w) e) k

  same-active : (b : Bool) → is_set (get_or d 22 0) ≡ b → is_set (get_or w 22 0) ≡ b
  same-active b e = rw (k, active-kept clock size w v) at e

  same_load : (b : Bool) → ltb (get_or d 1 0) (3 * get_or w 14 0) ≡ b → ltb (get_or w 1 0) (3 * get_or w 14 0) ≡ b
  same_load b e = rw (k, buffer-kept clock size w v) at e

  pub active-stays : is_set (get_or d 22 0) ≡ true → Begun d
  unfolding state_of
  active-stays e = stays (rw (same-active true e))

  module _ (idle : is_set (get_or d 22 0) ≡ false) where
    pub light-stays : ltb (get_or d 1 0) (3 * get_or w 14 0) ≡ false → Begun d
    unfolding state_of
    light-stays t = stays (rw (same-active false idle, same_load false t))

    pub turns-active : ltb (get_or d 1 0) (3 * get_or w 14 0) ≡ true → Begun (restarted_words (set d 8 0))
    turns-active t = rw k (restarted-words clock size w (same-active false idle) (same_load true t) v)
