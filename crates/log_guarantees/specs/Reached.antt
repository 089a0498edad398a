-- 11 refuses exactly the states that no run reaches in bytes of that length.
use Rattle.std.specs.Prelude.{◌≡◌, true, List, ℕ, length}
use Rattle.laws.specs.Tests.{all}
use Rattle.log_codec.specs.declared.Header.{Header}
use Rattle.log_codec.specs.declared.Record.{Record}
use Rattle.call_log.specs.Writer.{begin, writer_conditions}
use Rattle.call_log.specs.declared.Writer.{Writer}
use Rattle.log_guarantees.specs.Run.{run}

-- a run that reaches this state in these bytes
pub record Way (w : Writer) (bytes : List ℕ) : Type 0 where
  pub header : Header
  pub note : List ℕ
  pub records : List Record
  pub begins : (begin header note bytes).refusal ≡ 0
  pub arrives : (run header note bytes records).writer ≡ w

pub record Reached : Type 0 where
  -- a state that a run reaches is not refused by 11
  pub accepted : (w : Writer) (bytes : List ℕ) → Way w bytes → all (writer_conditions w (length bytes)) ≡ true
  -- a state that 11 does not refuse is reached by a run
  pub reached : (w : Writer) (bytes : List ℕ) → all (writer_conditions w (length bytes)) ≡ true → Way w bytes
