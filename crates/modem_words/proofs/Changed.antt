-- The words of the state that was decoded from them, and the words that an arrival changes.
use mathlib.Core.Path.{◌≡◌, refl, ap, ◌∙◌}
use mathlib.Core.Bool.{cond}
use mathlib.Core.List.{List}
use Prim.Native.Nat.{ℕ}
use lib.ListN.{get_or, length}
use lib.Dec.{eqb}
use Rattle.units.specs.Kinds.{none}
use Rattle.laws.proofs.Choice.{either}
use Rattle.pie.specs.Verdicts.{is_early}
use Rattle.pie.specs.declared.Verdict.TheVariants.{DroppedBytes, DroppedSlots}
use Rattle.laws.proofs.Written.{listed, written_out}
use Rattle.docsis_pie.specs.Constants.{active, full_allowance, quiescent}
use Rattle.docsis_pie.specs.DropDecision.{after_drop, cleared, decided, drawn, drawn_with, enqueued_with, in_allowance, is_inactive, is_quiescent}
use Rattle.docsis_pie.specs.DropDecision.{scaled_of, stays_inactive, summed, with_accumulated, with_activity, with_allowance, no_longer_inactive}
use Rattle.docsis_pie.specs.declared.Decided.{Decided}
use Rattle.docsis_pie.specs.declared.DocsisPie.{DocsisPie}
use Rattle.modem_flow.specs.Arrival.{arrived_state, bytes_full, decision_of, slots_full, turned_away}
use Rattle.modem_flow.specs.Departure.{departed_state}
use Rattle.modem_flow.specs.declared.State.{State}
use Rattle.modem_words.specs.Words.{arrival_words, departure_words, state_of, state_words}

words-kept : (w : List ℕ) → length w ≡ 16 → w ≡ state_words (state_of w)
unfolding state_of state_words
words-kept w h = written_out 16 w h

-- words that are not written are still the state's
pub kept : (w : List ℕ) (s : State) → (s ≡ state_of w) × (length w ≡ 16) → w ≡ state_words s
kept w s h = rw h.0 (words-kept w h.1)

-- ── the rules of an arrival leave probability, old delay and reset time ──

abbrev pub Same : (before after : DocsisPie) → Type 0
Same p q = (q.prob.0 ≡ p.prob.0) × (q.old.0 ≡ p.old.0) × (q.phase.reset.0 ≡ p.phase.reset.0)

pub same-cleared : (p q : DocsisPie) → Same p q → Same p (cleared q)
same-cleared p q h = either (Same p) (eqb q.prob.0 none) (with_accumulated q none) q h h

pub same-no-longer-inactive : (p q : DocsisPie) → Same p q → Same p (no_longer_inactive q)
same-no-longer-inactive p q h = either (Same p) (is_inactive q) (with_activity q quiescent) q h h

same-dropped : (p q : DocsisPie) → Same p q → Same p (after_drop q)
same-dropped p q h =
    either (Same p) (is_quiescent q)
    (with_allowance (with_activity (with_accumulated q none) active) full_allowance)
    (with_accumulated q none)
    h
    h

same-drawn : (p q : DocsisPie) (target bytes scaled u : ℕ) → Same p q → Same p (drawn_with q target bytes scaled u).pie
unfolding drawn_with
same-drawn p q target bytes scaled u h = either (Same p) (is_early (drawn q target bytes scaled u)) (after_drop q) q (same-dropped p q h) h

same-decided : (p : DocsisPie) (target buffer bytes size u : ℕ) → Same p (decided p target buffer bytes size u).pie
unfolding decided
same-decided p target buffer bytes size u =
    let scaled = scaled_of p.prob.0 size in
    let sum = summed (no_longer_inactive (cleared p)) scaled in
    let early = drawn_with sum target bytes scaled u in
    either (λ (d : Decided). Same p d.pie) (in_allowance p) (enqueued_with p)
    (cond (stays_inactive p buffer bytes) (enqueued_with (cleared p)) early)
    (refl, refl, refl)
    (either (λ (d : Decided). Same p d.pie) (stays_inactive p buffer bytes) (enqueued_with (cleared p)) early
    (same-cleared p p (refl, refl, refl))
    (same-drawn p sum target bytes scaled u (same-no-longer-inactive p (cleared p) (same-cleared p p (refl, refl, refl)))))

same-pie : (s : State) (size u : ℕ) → Same s.pie (decision_of s size u).pie
unfolding decision_of
same-pie s size u =
    let rest = decided s.pie s.settings.target.0 s.settings.buffer.0 s.backlog.bytes.0 size u in
    either (λ (d : Decided). Same s.pie d.pie) (bytes_full s size) (turned_away s DroppedBytes)
    (cond (slots_full s) (turned_away s DroppedSlots) rest)
    (refl, refl, refl)
    (either (λ (d : Decided). Same s.pie d.pie) (slots_full s) (turned_away s DroppedSlots) rest
    (refl, refl, refl)
    (same-decided s.pie s.settings.target.0 s.settings.buffer.0 s.backlog.bytes.0 size u))

changed : (w : List ℕ) (clock size : ℕ) (d : Decided) → Same (state_of w).pie d.pie →
    arrival_words (listed 16 (λ i. get_or w i 0)) (arrived_state (state_of w) clock size d) ≡ state_words (arrived_state (state_of w) clock size d)
unfolding state_of state_words arrived_state
changed w clock size d h = rw (h.0, h.1, h.2)

-- the words that an arrival changes are all in which the new state's differ
pub arrival-words : (w : List ℕ) (s : State) (clock size u : ℕ) → (s ≡ state_of w) × (length w ≡ 16) →
    let after = arrived_state s clock size (decision_of s size u) in arrival_words w after ≡ state_words after
arrival-words w s clock size u h =
    rw h.0
    (let after = arrived_state (state_of w) clock size (decision_of (state_of w) size u) in
    ap (λ (l : List ℕ). arrival_words l after) (written_out 16 w h.1)
    ∙ changed w clock size (decision_of (state_of w) size u) (same-pie (state_of w) size u))

pub words-taken : (w after : List ℕ) (s next : State) → after ≡ arrival_words w s → s ≡ next → arrival_words w next ≡ state_words next →
    after ≡ state_words next
words-taken w after s next a b c = a ∙ ap (λ (x : State). arrival_words w x) b ∙ c

-- ── the words that a departure changes ──

left : (w : List ℕ) (clock size : ℕ) →
    departure_words (listed 16 (λ i. get_or w i 0)) (departed_state (state_of w) clock size) ≡ state_words (departed_state (state_of w) clock size)
unfolding state_of state_words departed_state
left w clock size = refl

pub departure-words : (w after : List ℕ) (s next : State) (clock size : ℕ) → (s ≡ state_of w) × (length w ≡ 16) →
    after ≡ departure_words w next → next ≡ departed_state s clock size → after ≡ state_words (departed_state s clock size)
departure-words w after s next clock size h e f =
    e
    ∙ ap (λ (x : State). departure_words w x) f
    ∙ rw h.0
    (ap (λ (l : List ℕ). departure_words l (departed_state (state_of w) clock size)) (written_out 16 w h.1) ∙ left w clock size)
