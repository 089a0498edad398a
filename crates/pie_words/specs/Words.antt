-- The ten words of a queue under PIE, which stand from a place k on in a record's words: probability, old delay, allowance, accumulated
-- probability; average, whether a measurement runs, its start, its counted bytes; packets and bytes queued.
use Rattle.std.specs.Prelude.{List, [], ◌∷◌, ℕ, ◌+◌, get_or, set}
use Rattle.units.specs.Kinds.{bytes, micros, prob}
use Rattle.pie.specs.declared.Backlog.{Backlog}
use Rattle.pie.specs.declared.Pie.{Pie}
use Rattle.pie.specs.declared.Rate.{Rate}
use Rattle.pie_words.specs.Flags.{flag_word, is_set}

-- ── what they hold ──

abbrev pub rate_at : (words : List ℕ) (k : ℕ) → Rate
rate_at w k =
    record {
      average = micros (get_or w (k + 4) 0);
      measuring = is_set (get_or w (k + 5) 0);
      start = micros (get_or w (k + 6) 0);
      counted = bytes (get_or w (k + 7) 0);
    }

abbrev pub pie_at : (words : List ℕ) (k : ℕ) → Pie
pie_at w k =
    record {
      prob = prob (get_or w k 0);
      old = micros (get_or w (k + 1) 0);
      allowance = micros (get_or w (k + 2) 0);
      accumulated = prob (get_or w (k + 3) 0);
      rate = rate_at w k;
    }

abbrev pub backlog_at : (words : List ℕ) (k : ℕ) → Backlog
backlog_at w k = record { count = get_or w (k + 8) 0; bytes = bytes (get_or w (k + 9) 0) }

-- the five counts of verdicts, which stand from a place of their own on
abbrev pub counts_at : (words : List ℕ) (k : ℕ) → List ℕ
counts_at w k = get_or w k 0 ∷ get_or w (k + 1) 0 ∷ get_or w (k + 2) 0 ∷ get_or w (k + 3) 0 ∷ get_or w (k + 4) 0 ∷ []

-- ── what is written ──

-- the ten words, written over those from k on, with the words that follow
abbrev pub pie_words : (words : List ℕ) (k : ℕ) → Pie → Backlog → (following : List ℕ) → List ℕ
pie_words w k p queued following =
    p.prob.0
    ∷ p.old.0
    ∷ p.allowance.0
    ∷ p.accumulated.0
    ∷ p.rate.average.0
    ∷ flag_word (get_or w (k + 5) 0) p.rate.measuring
    ∷ p.rate.start.0
    ∷ p.rate.counted.0
    ∷ queued.count
    ∷ queued.bytes.0
    ∷ following

-- the words with another departure rate
unfoldable pub rate_words : (words : List ℕ) (k : ℕ) → Rate → List ℕ
rate_words w k r =
    let timed = set (set (set w (k + 4) r.average.0) (k + 6) r.start.0) (k + 7) r.counted.0 in
    set timed (k + 5) (flag_word (get_or w (k + 5) 0) r.measuring)

-- the words after the periodic update, which leaves the accumulated probability and the departure rate
abbrev pub updated_words : (words : List ℕ) (k : ℕ) → Pie → List ℕ
updated_words w k p = set (set (set w k p.prob.0) (k + 1) p.old.0) (k + 2) p.allowance.0
