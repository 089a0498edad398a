-- A refused call changes nothing.
use Rattle.std.specs.Prelude.{◌≡◌, ◌≢◌, List, ℕ}
use Rattle.log_codec.specs.declared.Header.{Header}
use Rattle.log_codec.specs.declared.Record.{Record}
use Rattle.call_log.specs.Answers.{end, given, refused}
use Rattle.call_log.specs.Reader.{place_after, read_at}
use Rattle.call_log.specs.Writer.{add, begin, zero_writer}
use Rattle.call_log.specs.declared.Writer.{Writer}

pub record Refused : Type 0 where
  -- a refused begin leaves the bytes and returns the all-zero state, from which every add is refused by 11
  pub begin-bytes : (h : Header) (note bytes : List ℕ) → (begin h note bytes).refusal ≢ 0 → (begin h note bytes).bytes ≡ bytes
  pub begin-state : (h : Header) (note bytes : List ℕ) → (begin h note bytes).refusal ≢ 0 → (begin h note bytes).writer ≡ zero_writer
  pub zero-state : (r : Record) (bytes : List ℕ) → (add zero_writer r bytes).refusal ≡ 11
  -- a refused add leaves bytes and state
  pub add-bytes : (w : Writer) (r : Record) (bytes : List ℕ) → (add w r bytes).refusal ≢ 0 → (add w r bytes).bytes ≡ bytes
  pub add-state : (w : Writer) (r : Record) (bytes : List ℕ) → (add w r bytes).refusal ≢ 0 → (add w r bytes).writer ≡ w
  -- a refused read leaves the place, and so does the end
  pub read : (log : List ℕ) (place number : ℕ) → read_at log place ≡ refused number → place_after (read_at log place) place ≡ place
  pub at-end : (log : List ℕ) (place : ℕ) → read_at log place ≡ given end → place_after (read_at log place) place ≡ place
