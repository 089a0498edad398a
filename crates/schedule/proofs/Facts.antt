-- Where the lists stand: what the test says, as order facts, and back.
use mathlib.Core.Path.{◌≡◌, refl}
use mathlib.Core.Bool.{true, ◌&&◌}
use Prim.Native.Nat.{◌≤◌, ◌<◌}
use lib.Dec.{leb, ltb}
use borrow.Author.Tests.{leb-true, ltb-true, le-leb, lt-ltb}
use Rattle.laws.proofs.Tests.{and_left, and_right}
use Rattle.schedule.specs.declared.Lists.{Lists}
use Rattle.schedule.specs.WellFormed.{lists_fit}

pub record ListFacts (l : Lists) : Type 0 where
  pub first-lt : l.first < 64
  pub old-le : l.old ≤ l.listed
  pub listed_le : l.listed ≤ 64

pub facts : (l : Lists) → lists_fit l ≡ true → ListFacts l
facts l h =
    let a = and_left (ltb l.first 64 && leb l.old l.listed) (leb l.listed 64) h in
    record {
      first-lt = ltb-true l.first 64 (and_left (ltb l.first 64) (leb l.old l.listed) a);
      old-le = leb-true l.old l.listed (and_right (ltb l.first 64) (leb l.old l.listed) a);
      listed_le = leb-true l.listed 64 (and_right (ltb l.first 64 && leb l.old l.listed) (leb l.listed 64) h);
    }

pub lists-fit : (l : Lists) → l.first < 64 → l.old ≤ l.listed → l.listed ≤ 64 → lists_fit l ≡ true
lists-fit l a b c = rw (lt-ltb l.first 64 a, le-leb l.old l.listed b, le-leb l.listed 64 c) refl
