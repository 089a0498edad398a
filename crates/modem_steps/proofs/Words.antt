-- Sixteen words, written out, and what the inner functions make of them.
use mathlib.Core.Path.{◌≡◌, refl, subst⁻¹}
use mathlib.Core.Bool.{Bool, true, false, cond}
use mathlib.Core.List.{List}
use Prim.Native.Nat.{ℕ, ◌+◌, ◌-◌, ◌%◌, min}
use lib.ListN.{get_or, length, set}
use Rattle.units.specs.Kinds.{none}
use Rattle.pie.specs.Backlog.{entered}
use Rattle.pie.specs.Verdicts.{admitted}
use Rattle.docsis_pie.specs.Constants.{active, full_allowance, high, quiescent}
use Rattle.docsis_pie.specs.Delay.{delay_of}
use Rattle.docsis_pie.specs.DropDecision.{summed, with_accumulated, with_activity, with_allowance}
use Rattle.docsis_pie.specs.Probability.{next_prob}
use Rattle.docsis_pie.specs.Update.{is_quiet, next_allowance, phase, phase_after, updated}
use Rattle.docsis_pie.specs.declared.Decided.{Decided}
use Rattle.docsis_pie.specs.declared.DocsisPie.{DocsisPie}
use Rattle.modem_flow.specs.Arrival.{arrived_state}
use Rattle.modem_flow.specs.Departure.{departed_state}
use Rattle.modem_flow.specs.Tick.{ticked_state}
use Rattle.modem_words.specs.Words.{arrival_words, backlog_of, pie_of, state_of, state_words}
use Rattle.laws.proofs.Written.{listed, written_out}
use Rattle.modem_words.proofs.Changed.{Same}
use Rattle.modem_steps.specs.Words.{phase_words, pie_words}

-- what holds of any sixteen words written out holds of sixteen words
pub for-words : (P : List ℕ → Type 0) → ((f : ℕ → ℕ) → P (listed 16 f)) → (w : List ℕ) → length w ≡ 16 → P w
for-words P h w e = subst⁻¹ P (written_out 16 w e) (h (λ i. get_or w i 0))

-- ── the rules of an arrival ──

pub pie-same : (w : List ℕ) → length w ≡ 16 → w ≡ pie_words w (pie_of w)
pie-same = for-words (λ w. w ≡ pie_words w (pie_of w)) (λ f. refl)

pub pie-long : (q : DocsisPie) (w : List ℕ) → length w ≡ 16 → length (pie_words w q) ≡ 16
pie-long q = for-words (λ w. length (pie_words w q) ≡ 16) (λ f. refl)

pub pie-twice : (q r : DocsisPie) (w : List ℕ) → length w ≡ 16 → pie_words (pie_words w q) r ≡ pie_words w r
pie-twice q r = for-words (λ w. pie_words (pie_words w q) r ≡ pie_words w r) (λ f. refl)

-- the words hold the record that was written, where probability, old delay and reset time are theirs
pub pie-back : (q : DocsisPie) (w : List ℕ) → length w ≡ 16 → Same (pie_of w) q → pie_of (pie_words w q) ≡ q
pie-back q = for-words (λ w. Same (pie_of w) q → pie_of (pie_words w q) ≡ q) (λ f h. rw (← h.0, ← h.1, ← h.2))

-- the settings are as they were
pub pie-target : (q : DocsisPie) (w : List ℕ) → length w ≡ 16 → get_or (pie_words w q) 0 0 ≡ get_or w 0 0
pie-target q = for-words (λ w. get_or (pie_words w q) 0 0 ≡ get_or w 0 0) (λ f. refl)

pub pie-buffer : (q : DocsisPie) (w : List ℕ) → length w ≡ 16 → get_or (pie_words w q) 1 0 ≡ get_or w 1 0
pie-buffer q = for-words (λ w. get_or (pie_words w q) 1 0 ≡ get_or w 1 0) (λ f. refl)

-- ── the accumulated probability alone ──

-- rules 1 and 2, and rule 4 where p is 0
pub spent-words : (w : List ℕ) → length w ≡ 16 → set w 8 0 ≡ pie_words w (with_accumulated (pie_of w) none)
spent-words = for-words (λ w. set w 8 0 ≡ pie_words w (with_accumulated (pie_of w) none)) (λ f. refl)

-- rule 8
pub summed-words : (n : ℕ) (w : List ℕ) → length w ≡ 16 → set w 8 (min (get_or w 8 0 + n) high) ≡ pie_words w (summed (pie_of w) n)
summed-words n = for-words (λ w. set w 8 (min (get_or w 8 0 + n) high) ≡ pie_words w (summed (pie_of w) n)) (λ f. refl)

-- rule 6
pub no-longer-inactive-words : (w : List ℕ) → length w ≡ 16 → set w 12 quiescent ≡ pie_words w (with_activity (pie_of w) quiescent)
no-longer-inactive-words = for-words (λ w. set w 12 quiescent ≡ pie_words w (with_activity (pie_of w) quiescent)) (λ f. refl)

-- rule 15, of a quiescent flow
abbrev dropped : DocsisPie → DocsisPie
dropped pie = with_allowance (with_activity (with_accumulated pie none) active) full_allowance

pub active-words : (w : List ℕ) → length w ≡ 16 → set (set (set w 8 0) 10 full_allowance) 12 active ≡ pie_words w (dropped (pie_of w))
active-words = for-words (λ w. set (set (set w 8 0) 10 full_allowance) 12 active ≡ pie_words w (dropped (pie_of w))) (λ f. refl)

-- ── the words of the states that calls return ──

-- count and bytes, from those of w
abbrev pub entered_words : (next w : List ℕ) (size : ℕ) → List ℕ
entered_words next w size = set (set next 14 (get_or w 14 0 + 1)) 15 (get_or w 15 0 + size)

-- clock, and count and bytes where the packet is admitted
abbrev pub arrival_written : List ℕ → (clock size : ℕ) → Decided → List ℕ
arrival_written w clock size d =
    let decided = set (pie_words w d.pie) 5 clock in cond (admitted d.verdict) (entered_words decided w size) decided

pub arrived-words : (clock size : ℕ) (d : Decided) (w : List ℕ) → length w ≡ 16 →
    arrival_written w clock size d ≡ arrival_words w (arrived_state (state_of w) clock size d)
unfolding state_of arrived_state
arrived-words clock size d =
    for-words (λ w. arrival_written w clock size d ≡ arrival_words w (arrived_state (state_of w) clock size d)) (λ f. go f (admitted d.verdict))
  where
    go : (f : ℕ → ℕ) (b : Bool) →
        let decided = set (pie_words (listed 16 f) d.pie) 5 clock in
        let backlog = cond b (entered (backlog_of (listed 16 f)) size) (backlog_of (listed 16 f)) in
        cond b (entered_words decided (listed 16 f) size) decided ≡ set (set (set (pie_words (listed 16 f) d.pie) 5 clock) 14 backlog.count) 15 backlog.bytes.0
    go f true = refl
    go f false = refl

-- ── a tick ──

-- a phase that stays
pub phase-same : (w : List ℕ) → length w ≡ 16 → w ≡ phase_words w (pie_of w).phase
phase-same = for-words (λ w. w ≡ phase_words w (pie_of w).phase) (λ f. refl)

-- an activity that stays
pub activity-same : (to reset : ℕ) (w : List ℕ) → length w ≡ 16 → get_or w 12 0 ≡ to → set w 11 reset ≡ phase_words w (phase to reset)
activity-same to reset = for-words (λ w. get_or w 12 0 ≡ to → set w 11 reset ≡ phase_words w (phase to reset)) (λ f e. rw (← e) refl)

-- both clocks, probability, old delay and allowance
abbrev pub tick_written : List ℕ → (clock p delay allowance : ℕ) → List ℕ
tick_written w clock p delay allowance = set (set (set (set (set w 5 clock) 6 clock) 7 p) 9 delay) 10 allowance

-- what is written before the phase leaves it
pub tick-before : (clock p delay allowance : ℕ) (w : List ℕ) → length w ≡ 16 →
    let v = tick_written w clock p delay allowance in (length v ≡ 16) × (get_or v 11 0 ≡ get_or w 11 0)
tick-before clock p delay allowance =
    for-words
    (λ w. let v = tick_written w clock p delay allowance in (length v ≡ 16) × (get_or v 11 0 ≡ get_or w 11 0))
    (λ f. (refl, refl))

pub ticked-words : (clock credits : ℕ) (w : List ℕ) → length w ≡ 16 →
    let target = get_or w 0 0 in
    let old = get_or w 9 0 in
    let delay = delay_of (get_or w 15 0) credits (get_or w 3 0) (get_or w 4 0) in
    let p = next_prob (get_or w 7 0) (get_or w 10 0) delay old target in
    let allowance = next_allowance (get_or w 10 0) in
    let v = tick_written w clock p delay allowance in
    phase_words v (phase_after (is_quiet p allowance delay old target) (pie_of v).phase) ≡ state_words (ticked_state (state_of w) clock credits)
unfolding state_of state_words ticked_state updated
ticked-words clock credits =
    for-words
    (λ w.
    let target = get_or w 0 0 in
    let old = get_or w 9 0 in
    let delay = delay_of (get_or w 15 0) credits (get_or w 3 0) (get_or w 4 0) in
    let p = next_prob (get_or w 7 0) (get_or w 10 0) delay old target in
    let allowance = next_allowance (get_or w 10 0) in
    let v = tick_written w clock p delay allowance in
    phase_words v (phase_after (is_quiet p allowance delay old target) (pie_of v).phase) ≡ state_words (ticked_state (state_of w) clock credits))
    (λ f. refl)

-- ── a departure ──

-- clock, first place, count and bytes
pub departed-words : (clock size : ℕ) (w : List ℕ) → length w ≡ 16 →
    set (set (set (set w 5 clock) 13 ((get_or w 13 0 + 1) % get_or w 2 0)) 14 (get_or w 14 0 - 1)) 15 (get_or w 15 0 - size)
    ≡ state_words (departed_state (state_of w) clock size)
unfolding state_of state_words departed_state
departed-words clock size =
    for-words
    (λ w.
    set (set (set (set w 5 clock) 13 ((get_or w 13 0 + 1) % get_or w 2 0)) 14 (get_or w 14 0 - 1)) 15 (get_or w 15 0 - size)
    ≡ state_words (departed_state (state_of w) clock size))
    (λ f. refl)

-- slots, first place, count and bytes are as they were
abbrev pub QueueSame : (w next : List ℕ) → Type 0
QueueSame w next =
    (get_or next 2 0 ≡ get_or w 2 0) × (get_or next 13 0 ≡ get_or w 13 0) × (get_or next 14 0 ≡ get_or w 14 0) × (get_or next 15 0 ≡ get_or w 15 0)

-- after the rules of an arrival, and with its clock
pub past-decision : (clock : ℕ) (q : DocsisPie) (w : List ℕ) → length w ≡ 16 → QueueSame w (set (pie_words w q) 5 clock)
past-decision clock q = for-words (λ w. QueueSame w (set (pie_words w q) 5 clock)) (λ f. (refl, refl, refl, refl))
