-- The words that a departure changes are all in which the new state's differ.
use mathlib.Core.Path.{◌≡◌, refl, ap, ◌∙◌}
use mathlib.Core.Bool.{Bool, true, false, cond}
use mathlib.Core.List.{List}
use mathlib.Core.Logic.{◌≢◌}
use Prim.Native.Nat.{ℕ, ◌+◌, ◌-◌}
use lib.ListN.{get_or, length, set}
use lib.Dec.{eqb, leb}
use Rattle.units.specs.Kinds.{bytes, micros}
use Rattle.pie.specs.Constants.{threshold}
use Rattle.pie.specs.DepartureRate.{average_of, rate_after, resting, running, sample_of}
use Rattle.pie.specs.declared.Rate.{Rate}
use Rattle.ring.specs.Departure.{departed_state}
use Rattle.ring.specs.declared.State.{State}
use Rattle.pie_words.specs.Flags.{flag_word, is_set}
use Rattle.ring_words.specs.Words.{state_of, state_words}
use Rattle.pie_words.proofs.Flags.{flag-kept}
use Rattle.laws.proofs.Written.{listed, written_out}

-- a rate that has counted bytes after a departure was counting before it: the others of its numbers stay
rate-kept : (average : ℕ) (runs : Bool) (start counted clock size packets left : ℕ) →
    let before : Rate = record { average = micros average; measuring = runs; start = micros start; counted = bytes counted } in
    let after = rate_after before clock size packets left in
    after.counted.0 ≢ 0 → (after.average.0 ≡ average) × ((after.measuring ≡ runs) × (after.start.0 ≡ start))
unfolding rate_after
rate-kept average true start counted clock size packets left = go (leb threshold (counted + size)) (eqb packets 0) (leb threshold left)
  where
    go : (ends none enough : Bool) →
        let rate = cond ends (resting (average_of average (sample_of clock start))) (cond none (resting average) (running average start (counted + size))) in
        let after = cond rate.measuring rate (cond enough (running rate.average.0 clock 0) rate) in
        after.counted.0 ≢ 0 → (after.average.0 ≡ average) × ((after.measuring ≡ true) × (after.start.0 ≡ start))
    go true none true h = absurd (h refl)
    go true none false h = absurd (h refl)
    go false true true h = absurd (h refl)
    go false true false h = absurd (h refl)
    go false false enough h = (refl, (refl, refl))
rate-kept average false start counted clock size packets left = go (leb threshold left)
  where
    go : (enough : Bool) →
        let rate : Rate = record { average = micros average; measuring = false; start = micros start; counted = bytes counted } in
        let after = cond enough (running average clock 0) rate in
        after.counted.0 ≢ 0 → (after.average.0 ≡ average) × ((after.measuring ≡ false) × (after.start.0 ≡ start))
    go true h = absurd (h refl)
    go false h = (refl, (refl, refl))

-- all words of a rate, written over these, and the words that a departure always writes
abbrev pub rated : List ℕ → Rate → List ℕ
rated w r =
    let next = set (set w 12 r.counted.0) 9 r.average.0 in
    set (set next 10 (flag_word (get_or next 10 0) r.measuring)) 11 r.start.0

abbrev pub moved : List ℕ → State → List ℕ
moved w s = set (set (set (set w 3 s.clock.0) 13 s.backlog.count) 14 s.backlog.bytes.0) 15 s.first

module _ (w : List ℕ) (clock size : ℕ) where
  abbrev after : State
  after = departed_state (state_of w) clock size

  all-written : moved (rated (listed 23 (λ i. get_or w i 0)) after.pie.rate) after ≡ state_words w after
  unfolding state_of state_words departed_state
  all-written = rw (flag-kept (get_or w 22 0))

  counted-written : after.pie.rate.counted.0 ≢ 0 →
      moved (set (listed 23 (λ i. get_or w i 0)) 12 after.pie.rate.counted.0) after ≡ state_words w after
  unfolding state_of state_words departed_state
  counted-written some =
      let k = rate-kept (get_or w 9 0) (is_set (get_or w 10 0)) (get_or w 11 0) (get_or w 12 0) clock size (get_or w 13 0 - 1) (get_or w 14 0 - size) some in
      rw (k.0, k.1.0, k.1.1, flag-kept (get_or w 10 0), flag-kept (get_or w 22 0))

  module _ (s : State) (h : length w ≡ 23) (e : s ≡ after) where
    -- a departure's words: with all of its rate's, and with the counted bytes alone
    pub rate-words : moved (rated w s.pie.rate) s ≡ state_words w s
    rate-words = rw e (ap (λ (l : List ℕ). moved (rated l after.pie.rate) after) (written_out 23 w h) ∙ all-written)

    pub counted_words : s.pie.rate.counted.0 ≢ 0 → moved (set w 12 s.pie.rate.counted.0) s ≡ state_words w s
    counted_words =
        rw e (λ some. ap (λ (l : List ℕ). moved (set l 12 after.pie.rate.counted.0) after) (written_out 23 w h) ∙ counted-written some)
