-- What writing one word after the other makes.
use mathlib.Core.Path.{◌≡◌, refl, sym, ◌∙◌, ap}
use mathlib.Core.Bool.{Bool, true, false, cond, false≢true}
use mathlib.Core.List.{List}
use Prim.Native.Nat.{ℕ, ◌+◌, ◌<◌}
use native.Mathlib.Omega.{arith}
use lib.Dec.{eqb, leb}
use lib.ListN.{get_or, length, set, length-set}
use lib.Seq.{get_or-set_other, set-get_or}
use Rattle.pie.specs.declared.Rate.{Rate}
use Rattle.pie.specs.Constants.{threshold}
use Rattle.pie.specs.DepartureRate.{average_of, counting, rate_after, resting, running, sample_of, starting}
use Rattle.pie_words.specs.Flags.{is_set}
use Rattle.pie_words.proofs.Flags.{flag-kept, flag_off}
use Rattle.pie_words.specs.Words.{rate_at, rate_words}

-- a word that another write leaves, written as it was
kept-past : (w : List ℕ) (i j a : ℕ) → j < i → set (set w i a) j (get_or w j 0) ≡ set w i a
kept-past w i j a h = rw (← (get_or-set_other w i j a 0 (λ e. omega (arith, e)))) (set-get_or (set w i a) j 0)

-- all but the flag
abbrev pub timed : (w : List ℕ) (k : ℕ) → Rate → List ℕ
timed w k r = set (set (set w (k + 4) r.average.0) (k + 6) r.start.0) (k + 7) r.counted.0

pub timed-long : (w : List ℕ) (k : ℕ) (r : Rate) → length (timed w k r) ≡ length w
timed-long w k r =
    let average = set w (k + 4) r.average.0 in
    let start = set average (k + 6) r.start.0 in
    length-set start (k + 7) r.counted.0 ∙ length-set average (k + 6) r.start.0 ∙ length-set w (k + 4) r.average.0

pub timed-flag : (w : List ℕ) (k : ℕ) (r : Rate) → get_or (timed w k r) (k + 5) 0 ≡ get_or w (k + 5) 0
timed-flag w k r =
    let average = set w (k + 4) r.average.0 in
    let start = set average (k + 6) r.start.0 in
    get_or-set_other start (k + 7) (k + 5) r.counted.0 0 (λ e. omega (arith, e))
    ∙ get_or-set_other average (k + 6) (k + 5) r.start.0 0 (λ e. omega (arith, e))
    ∙ get_or-set_other w (k + 4) (k + 5) r.average.0 0 (λ e. omega (arith, e))

-- a measurement goes on
pub counted_words : (w : List ℕ) (k counted : ℕ) → is_set (get_or w (k + 5) 0) ≡ true →
    set w (k + 7) counted ≡ rate_words w k (running (get_or w (k + 4) 0) (get_or w (k + 6) 0) counted)
unfolding rate_words
counted_words w k counted e =
    rw (set-get_or w (k + 4) 0, set-get_or w (k + 6) 0, e) (sym (kept-past w (k + 7) (k + 5) counted (omega arith)))

-- no rate changes
pub same-words : (w : List ℕ) (k : ℕ) → w ≡ rate_words w k (rate_at w k)
unfolding rate_words
same-words w k =
    rw (set-get_or w (k + 4) 0, set-get_or w (k + 6) 0, set-get_or w (k + 7) 0, flag-kept (get_or w (k + 5) 0), set-get_or w (k + 5) 0)

-- another rate: one that rests, one that starts, one that ran already
pub rested : (w : List ℕ) (k : ℕ) (r : Rate) → r.measuring ≡ false → set (timed w k r) (k + 5) 0 ≡ rate_words w k r
unfolding rate_words
rested w k r m = rw (m, flag_off (get_or w (k + 5) 0))

pub started : (w : List ℕ) (k : ℕ) (r : Rate) → r.measuring ≡ true → is_set (get_or w (k + 5) 0) ≡ false →
    set (timed w k r) (k + 5) 1 ≡ rate_words w k r
unfolding rate_words
started w k r m e = rw (m, e)

pub ran_on : (w : List ℕ) (k : ℕ) (r : Rate) → r.measuring ≡ true → is_set (get_or w (k + 5) 0) ≡ true → timed w k r ≡ rate_words w k r
unfolding rate_words
ran_on w k r m e = rw (m, e, ← (timed-flag w k r)) (sym (set-get_or (timed w k r) (k + 5) 0))

-- ── the rate's own cases ──

module _ (r : Rate) (clock size count left : ℕ) where
  abbrev counts : (ends none : Bool) → Rate
  counts ends none =
      cond ends (resting (average_of r.average.0 (sample_of clock r.start.0)))
      (cond none (resting r.average.0) (running r.average.0 r.start.0 (r.counted.0 + size)))

  cases : (ends none : Bool) → (counts ends none).measuring ≡ true →
      counts ends none ≡ running r.average.0 r.start.0 (counts ends none).counted.0
  cases true none h = absurd (false≢true h)
  cases false true h = absurd (false≢true h)
  cases false false h = refl

  -- a measurement that goes on
  pub went_on : r.measuring ≡ true → (counting r clock size count).measuring ≡ true →
      rate_after r clock size count left ≡ running r.average.0 r.start.0 (counting r clock size count).counted.0
  unfolding rate_after
  went_on m h = rw (m, h) (cases (leb threshold (r.counted.0 + size)) (eqb count 0) h)

  -- one that ran
  pub after_run : r.measuring ≡ true → rate_after r clock size count left ≡ starting (counting r clock size count) clock left
  unfolding rate_after
  after_run m = rw m

  -- none ran
  pub after-rest : r.measuring ≡ false → rate_after r clock size count left ≡ starting r clock left
  unfolding rate_after
  after-rest m = rw m

  -- none runs after it: none starts
  pub none-starts : (starting r clock left).measuring ≡ false → starting r clock left ≡ r
  none-starts = go r.measuring (leb threshold left)
    where
      go : (ran enough : Bool) → (cond ran r (cond enough (running r.average.0 clock 0) r)).measuring ≡ false →
          cond ran r (cond enough (running r.average.0 clock 0) r) ≡ r
      go true enough h = refl
      go false true h = absurd (false≢true (sym h))
      go false false h = refl

-- ── what `measure` leaves, by each way out ──

module _ (w : List ℕ) (k clock size count left : ℕ) (r : Rate) (read : r ≡ rate_at w k) where
  abbrev Measured : List ℕ → Type 0
  Measured after = after ≡ rate_words w k (rate_after (rate_at w k) clock size count left)

  pub flag : (b : Bool) → r.measuring ≡ b → is_set (get_or w (k + 5) 0) ≡ b
  flag b h = sym (ap (λ (r : Rate). r.measuring) read) ∙ h

  pub goes_on : r.measuring ≡ true → (n : Rate) → n ≡ counting r clock size count → n.measuring ≡ true →
      Measured (set w (k + 7) n.counted.0)
  goes_on m n e h =
      let f = rw read at e in
      rw (went_on (rate_at w k) clock size count left (flag true m) (rw f at h), f) (counted_words w k _ (flag true m))

  pub ends : r.measuring ≡ true → (n next : Rate) → n ≡ counting r clock size count → next ≡ starting n clock left →
      Measured (rate_words w k next)
  ends m n next e f = rw (f, e, ← read) (ap (rate_words w k) (sym (after_run r clock size count left m)))

  pub begins : r.measuring ≡ false → (next : Rate) → next ≡ starting r clock left → Measured (rate_words w k next)
  begins m next f = rw (f, ← read) (ap (rate_words w k) (sym (after-rest r clock size count left m)))

  pub stays : r.measuring ≡ false → (next : Rate) → next ≡ starting r clock left → next.measuring ≡ false → Measured w
  stays m next f h =
      rw (← read) (rw (after-rest r clock size count left m, none-starts r clock size count left (rw f at h), read) (same-words w k))
