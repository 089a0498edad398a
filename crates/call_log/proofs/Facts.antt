-- What the tests of 11 give, as facts that `omega` reads.
use mathlib.Core.Path.{◌≡◌}
use mathlib.Core.Bool.{true, false, ◌||◌}
use mathlib.Core.List.{List}
use Prim.Native.Nat.{ℕ, ◌+◌, ◌*◌, ◌<◌, ◌≤◌}
use lib.Dec.{leb, ltb}
use lib.ListN.{get_or, length}
use borrow.Author.Tests.{eqb-true, leb-false, leb-true, ltb-false, not-false}
use Rattle.laws.proofs.Tests.{or-neither}
use Rattle.laws.specs.Tests.{all}
use Rattle.laws.proofs.TestLists.{all-at}
use Rattle.log_codec.specs.Numbers.{number_of}
use Rattle.call_log.specs.Layout.{count_in, length_of, letters, letters_in, offset_in, size_in}
use Rattle.call_log.specs.Reader.{trailer_conditions, trailer_refused}
use Rattle.call_log.specs.Writer.{writer_conditions}
use Rattle.call_log.specs.declared.Writer.{Writer}

-- a log whose trailer is not refused
pub record Sound (log : List ℕ) : Type 0 where
  pub long : 48 ≤ length log
  pub low : 32 ≤ offset_in log
  pub high : offset_in log ≤ 4128
  pub size : size_in log ≡ 40
  pub few : count_in log ≤ 100000
  pub lettered : letters_in log ≡ number_of letters
  pub whole : length log ≡ offset_in log + 40 * count_in log + 16

pub sound : (l : List ℕ) → trailer_refused l ≡ false → Sound l
unfolding trailer_refused
sound l e =
    let tests = trailer_conditions l in
    let at : (i : ℕ) → get_or tests i true ≡ true = all-at tests (not-false (all tests) e) in
    record {
      long = leb-true _ _ (at 0);
      low = leb-true _ _ (at 1);
      high = leb-true _ _ (at 2);
      size = eqb-true _ _ (at 3);
      few = leb-true _ _ (at 4);
      lettered = eqb-true _ _ (at 5);
      whole = eqb-true _ _ (at 6);
    }

-- a writer's state that can be reached in bytes of this length
pub record Held (w : Writer) (bytes_length : ℕ) : Type 0 where
  pub low : 32 ≤ w.offset
  pub high : w.offset ≤ 4128
  pub few : w.count ≤ 100000
  pub within : w.offset + 40 * w.count + 16 ≤ bytes_length

pub held : (w : Writer) (n : ℕ) → all (writer_conditions w n) ≡ true → Held w n
held w n e =
    let at : (i : ℕ) → get_or (writer_conditions w n) i true ≡ true = all-at (writer_conditions w n) e in
    record { low = leb-true _ _ (at 0); high = leb-true _ _ (at 1); few = leb-true _ _ (at 2); within = leb-true _ _ (at 3) }

-- room for one more record
pub roomy : (w : Writer) (n : ℕ) → (leb 100000 w.count || ltb n (length_of w.offset (w.count + 1))) ≡ false →
    (w.count < 100000) × (w.offset + 40 * (w.count + 1) + 16 ≤ n)
roomy w n e =
    let p = or-neither (leb 100000 w.count) (ltb n (length_of w.offset (w.count + 1))) e in (leb-false _ _ p.0, ltb-false _ _ p.1)
