-- The words that an arrival changes are all in which the new state's differ.
use mathlib.Core.Path.{◌≡◌, refl, ap, ◌∙◌}
use mathlib.Core.Bool.{Bool, true, false, cond, not, ◌&&◌, ◌||◌}
use mathlib.Core.List.{List}
use Prim.Native.Nat.{ℕ, ◌+◌, ◌≤◌}
use native.Mathlib.Omega.{arith}
use lib.ListN.{get_or, length, set}
use lib.Seq.{get_or-set_other}
use Rattle.pie.specs.Constants.{full_allowance}
use Rattle.pie.specs.Start.{restarted}
use Rattle.pie.specs.Verdicts.{place_of, raised}
use Rattle.pie.specs.declared.Verdict.{Verdict}
use Rattle.pie.specs.declared.Verdict.TheVariants.{Enqueued, Marked, DroppedBytes, DroppedSlots, DroppedEarly}
use Rattle.ring.specs.Activity.{above_third, begun}
use Rattle.ring.specs.Arrival.{arrived_state}
use Rattle.ring.specs.declared.State.{State}
use Rattle.pie_words.specs.Flags.{is_set}
use Rattle.ring_words.specs.Words.{arrival_words, restarted_words, state_of, state_words}
use Rattle.pie_words.proofs.Flags.{flag-kept, flag_off}
use Rattle.laws.proofs.Written.{listed, written_out}

or_no : (b : Bool) → (b || false) ≡ b
or_no true = refl
or_no false = refl

-- the state in which an arrival's rules begin, where it turns active and where it does not
abbrev turned_by : (turns : Bool) → State → State
turned_by turns s =
    record {
      settings = s.settings;
      clock = s.clock;
      last = s.last;
      pie = cond turns restarted s.pie;
      backlog = s.backlog;
      first = s.first;
      verdicts = s.verdicts;
      active = s.active || turns;
    }

module _ (w : List ℕ) (clock size : ℕ) where
  abbrev arrived : (turns : Bool) → Verdict → State
  arrived turns v = arrived_state (turned_by turns (state_of w)) clock size v

  changed : (v : Verdict) → arrival_words (listed 23 (λ i. get_or w i 0)) (arrived false v) v ≡ state_words w (arrived false v)
  unfolding state_of state_words arrived_state raised
  changed Enqueued = rw (or_no (is_set (get_or w 22 0)), flag-kept (get_or w 10 0), flag-kept (get_or w 22 0))
  changed Marked = rw (or_no (is_set (get_or w 22 0)), flag-kept (get_or w 10 0), flag-kept (get_or w 22 0))
  changed DroppedBytes = rw (or_no (is_set (get_or w 22 0)), flag-kept (get_or w 10 0), flag-kept (get_or w 22 0))
  changed DroppedSlots = rw (or_no (is_set (get_or w 22 0)), flag-kept (get_or w 10 0), flag-kept (get_or w 22 0))
  changed DroppedEarly = rw (or_no (is_set (get_or w 22 0)), flag-kept (get_or w 10 0), flag-kept (get_or w 22 0))

  changed-anew : is_set (get_or w 22 0) ≡ false → (v : Verdict) →
      arrival_words (restarted_words (listed 23 (λ i. get_or w i 0))) (arrived true v) v ≡ state_words w (arrived true v)
  unfolding state_of state_words arrived_state raised
  changed-anew e Enqueued = rw (flag_off (get_or w 10 0), e)
  changed-anew e Marked = rw (flag_off (get_or w 10 0), e)
  changed-anew e DroppedBytes = rw (flag_off (get_or w 10 0), e)
  changed-anew e DroppedSlots = rw (flag_off (get_or w 10 0), e)
  changed-anew e DroppedEarly = rw (flag_off (get_or w 10 0), e)

pub arrival-words : (w : List ℕ) → length w ≡ 23 → (clock size : ℕ) (v : Verdict) →
    let before = state_of w in
    let after = arrived_state (begun before) clock size v in
    arrival_words (cond (not before.active && after.active) (restarted_words w) w) after v ≡ state_words w after
unfolding state_of begun arrived_state
arrival-words w h clock size v = go (is_set (get_or w 22 0)) refl (above_third (state_of w))
  where
    long : w ≡ listed 23 (λ i. get_or w i 0)
    long = written_out 23 w h

    go : (active : Bool) → is_set (get_or w 22 0) ≡ active → (third : Bool) →
        let after = arrived_state (turned_by (not active && third) (state_of w)) clock size v in
        arrival_words (cond (not active && (active || (not active && third))) (restarted_words w) w) after v ≡ state_words w after
    go true e third = ap (λ (l : List ℕ). arrival_words l (arrived w clock size false v) v) long ∙ changed w clock size v
    go false e false = ap (λ (l : List ℕ). arrival_words l (arrived w clock size false v) v) long ∙ changed w clock size v
    go false e true = ap (λ (l : List ℕ). arrival_words (restarted_words l) (arrived w clock size true v) v) long ∙ changed-anew w clock size e v

-- ── words that are written one after the other ──

-- turning active leaves the counts
past-restart : (w : List ℕ) (at : ℕ) → 13 ≤ at → at ≤ 21 → get_or (restarted_words w) at 0 ≡ get_or w at 0
past-restart w at low high =
    get_or-set_other (set (set (set (set (set (set (set w 5 0) 6 0) 7 full_allowance) 9 0) 10 0) 11 0) 12 0) 22 at 1 0 (λ e. omega arith)
    ∙ get_or-set_other (set (set (set (set (set (set w 5 0) 6 0) 7 full_allowance) 9 0) 10 0) 11 0) 12 at 0 0 (λ e. omega arith)
    ∙ get_or-set_other (set (set (set (set (set w 5 0) 6 0) 7 full_allowance) 9 0) 10 0) 11 at 0 0 (λ e. omega arith)
    ∙ get_or-set_other (set (set (set (set w 5 0) 6 0) 7 full_allowance) 9 0) 10 at 0 0 (λ e. omega arith)
    ∙ get_or-set_other (set (set (set w 5 0) 6 0) 7 full_allowance) 9 at 0 0 (λ e. omega arith)
    ∙ get_or-set_other (set (set w 5 0) 6 0) 7 at full_allowance 0 (λ e. omega arith)
    ∙ get_or-set_other (set w 5 0) 6 at 0 0 (λ e. omega arith)
    ∙ get_or-set_other w 5 at 0 0 (λ e. omega arith)

pub count_left : (w : List ℕ) (turned : Bool) (v : Verdict) → get_or (cond turned (restarted_words w) w) (16 + place_of v) 0 ≡ get_or w (16 + place_of v) 0
count_left w false v = refl
count_left w true Enqueued = past-restart w 16 (omega arith) (omega arith)
count_left w true Marked = past-restart w 17 (omega arith) (omega arith)
count_left w true DroppedBytes = past-restart w 18 (omega arith) (omega arith)
count_left w true DroppedSlots = past-restart w 19 (omega arith) (omega arith)
count_left w true DroppedEarly = past-restart w 20 (omega arith) (omega arith)

-- the counts stand past the other words that an arrival changes
pub past-writes : (w : List ℕ) (a b c d at : ℕ) → 15 ≤ at → get_or (set (set (set (set w 3 a) 8 b) 13 c) 14 d) at 0 ≡ get_or w at 0
past-writes w a b c d at h =
    get_or-set_other (set (set (set w 3 a) 8 b) 13 c) 14 at d 0 (λ e. omega arith)
    ∙ get_or-set_other (set (set w 3 a) 8 b) 13 at c 0 (λ e. omega arith)
    ∙ get_or-set_other (set w 3 a) 8 at b 0 (λ e. omega arith)
    ∙ get_or-set_other w 3 at a 0 (λ e. omega arith)
