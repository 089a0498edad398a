-- Of a bad log the lowest number that applies is given, the first log's before the second's.
use mathlib.Core.Path.{◌≡◌, ap, sym, ◌∙◌}
use Prim.Native.Nat.{ℕ, suc}
use native.Mathlib.Omega.{arith}
use Rattle.call_log.specs.Answers.{Answer, given, refused}
use Rattle.call_log.specs.Whole.{Contents, read_whole}
use Rattle.log_guarantees.specs.LowestFirst.{whole_rows}
use Rattle.log_guarantees.proofs.LowestFirst.{lowest-first as log-lowest-first, order-of}
use Rattle.compare.specs.Compare.{Comparison, compare, equal, first_ends, notes_differ, record_differs, refused_first, refused_second}
use Rattle.compare.specs.Compare.{second_ends, settings_differ, with_first, with_second}
use Rattle.compare_guarantees.specs.LowestFirst.{LowestFirst}
use Rattle.compare_guarantees.proofs.ExactlyIf.{any}

-- one more than the number of the first log's refusal, or of the second's
first_in : Comparison → ℕ
first_in (refused_first n) = suc n
first_in (refused_second n) = 0
first_in settings_differ = 0
first_in notes_differ = 0
first_in (record_differs n) = 0
first_in (first_ends k n) = 0
first_in (second_ends k n) = 0
first_in (equal n) = 0

second_in : Comparison → ℕ
second_in (refused_first n) = 0
second_in (refused_second n) = suc n
second_in settings_differ = 0
second_in notes_differ = 0
second_in (record_differs n) = 0
second_in (first_ends k n) = 0
second_in (second_ends k n) = 0
second_in (equal n) = 0

first-refused : (first second : Answer Contents) (n : ℕ) → with_first first second ≡ refused_first n → first ≡ refused n
unfolding first_in
first-refused (refused m) second n e = let s : suc m ≡ suc n = ap first_in e in let k : m ≡ n = omega arith in ap refused k
first-refused (given a) (refused m) n e = let s : ◌≡◌ {A = ℕ} 0 (suc n) = ap first_in e in absurd (omega arith)
first-refused (given a) (given b) n e = absurd ((any (given a) (given b) (refused_first n)).0 e)

second-refused : (a : Contents) (second : Answer Contents) (n : ℕ) → with_first (given a) second ≡ refused_second n → second ≡ refused n
unfolding second_in
second-refused a (refused m) n e = let s : suc m ≡ suc n = ap second_in e in let k : m ≡ n = omega arith in ap refused k
second-refused a (given b) n e = absurd ((any (given a) (given b) (refused_second n)).0 e)

pub lowest-first : LowestFirst
unfolding compare
lowest-first = record {
  first = λ first second.
      order-of (whole_rows first) (λ n. read_whole first ≡ refused n) (λ n. compare first second ≡ refused_first n)
      (λ n e. ap (λ (x : Answer Contents). with_first x (read_whole second)) e)
      (λ n e. first-refused (read_whole first) (read_whole second) n e)
      (log-lowest-first.whole first);
  second = λ first second a r.
      order-of (whole_rows second) (λ n. read_whole second ≡ refused n) (λ n. compare first second ≡ refused_second n)
      (λ n e. ap (λ (x : Answer Contents). with_first x (read_whole second)) r ∙ ap (with_second a) e)
      (λ n e. second-refused a (read_whole second) n (ap (λ (x : Answer Contents). with_first x (read_whole second)) (sym r) ∙ e))
      (log-lowest-first.whole second);
}
