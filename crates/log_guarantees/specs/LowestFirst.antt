-- Where several refusals apply, the lowest is given (Q-1): of begin, of add, of each call of the reader, and of a log that is read whole.
use Rattle.std.specs.Prelude.{◌≡◌, Bool, true, not, ◌&&◌, ◌≢◌, ℕ, ◌≤◌, leb, length}
use mathlib.Core.List.{List, [], ◌∷◌, Memᴰ}
use Rattle.log_codec.specs.declared.Header.{Header}
use Rattle.log_codec.specs.declared.Record.{Record}
use Rattle.call_log.specs.Answers.{refused}
use Rattle.call_log.specs.Faults.{faulty, header_refused}
use Rattle.call_log.specs.Layout.{count_in, header_in, record_in, records_in}
use Rattle.call_log.specs.Reader.{note_of, read_at, settings_of, trailer_refused}
use Rattle.call_log.specs.Whole.{any_faulty, read_whole}
use Rattle.call_log.specs.Writer.{add, add_refusals, begin, begin_refusals}
use Rattle.call_log.specs.declared.Writer.{Writer}

-- a call with these rows of the table of refusals, each a number with its test; `Refuses n`: the call is refused by n
pub record InOrder (rows : List (ℕ × Bool)) (Refuses : ℕ → Type 0) : Type 0 where
  -- the number that is given applies, and no lower one does
  pub lowest : (n : ℕ) → Refuses n → Memᴰ (n, true) rows × ((m : ℕ) → Memᴰ (m, true) rows → n ≤ m)
  -- where a number applies, the call is refused
  pub refuses : (m : ℕ) → Memᴰ (m, true) rows → (n : ℕ) × Refuses n

-- ── the rows of the reader ──

-- settings and note
abbrev pub open_rows : (log : List ℕ) → List (ℕ × Bool)
open_rows l = (11, trailer_refused l) ∷ (12, header_refused (header_in l)) ∷ []

-- a record: it is faulty, and the place is below the count
abbrev pub read_rows : (log : List ℕ) (place : ℕ) → List (ℕ × Bool)
read_rows l place =
    (11, trailer_refused l) ∷ (12, header_refused (header_in l)) ∷ (13, not (leb (count_in l) place) && faulty (record_in l place)) ∷ []

-- the whole log: any record is faulty
abbrev pub whole_rows : (log : List ℕ) → List (ℕ × Bool)
whole_rows l = (11, trailer_refused l) ∷ (12, header_refused (header_in l)) ∷ (13, any_faulty (records_in l)) ∷ []

pub record LowestFirst : Type 0 where
  pub begins : (h : Header) (note bytes : List ℕ) →
      InOrder (begin_refusals h (length note) (length bytes)) (λ n. (n ≢ 0) × ((begin h note bytes).refusal ≡ n))
  pub adds : (w : Writer) (r : Record) (bytes : List ℕ) →
      InOrder (add_refusals w r (length bytes)) (λ n. (n ≢ 0) × ((add w r bytes).refusal ≡ n))
  pub settings : (log : List ℕ) → InOrder (open_rows log) (λ n. settings_of log ≡ refused n)
  pub note : (log : List ℕ) → InOrder (open_rows log) (λ n. note_of log ≡ refused n)
  pub reads : (log : List ℕ) (place : ℕ) → InOrder (read_rows log place) (λ n. read_at log place ≡ refused n)
  pub whole : (log : List ℕ) → InOrder (whole_rows log) (λ n. read_whole log ≡ refused n)
