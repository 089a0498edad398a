-- Of a bad log the lowest number that applies is given, the first log's before the second's (Q-11).
use Rattle.std.specs.Prelude.{◌≡◌, List, ℕ}
use Rattle.call_log.specs.Answers.{given}
use Rattle.call_log.specs.Whole.{Contents, read_whole}
use Rattle.log_guarantees.specs.LowestFirst.{InOrder, whole_rows}
use Rattle.compare.specs.Compare.{compare, refused_first, refused_second}

pub record LowestFirst : Type 0 where
  pub first : (first second : List ℕ) → InOrder (whole_rows first) (λ n. compare first second ≡ refused_first n)
  -- where the first reads whole
  pub second : (first second : List ℕ) (a : Contents) → read_whole first ≡ given a →
      InOrder (whole_rows second) (λ n. compare first second ≡ refused_second n)
