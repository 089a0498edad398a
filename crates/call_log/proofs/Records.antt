-- The records of a log, one after the other.
use mathlib.Core.Path.{◌≡◌, refl, ap}
use mathlib.Core.List.{List, ◌∷◌}
use Prim.Native.Nat.{ℕ, zero, suc, ◌+◌, ◌-◌, ◌<◌}
use native.Mathlib.Omega.{arith}
use lib.ListN.{length, length-drop, length-take}
use Rattle.log_codec.specs.Records.{decoded}
use Rattle.call_log.specs.Layout.{note_in, offset_in, records_from}
use Rattle.call_log.proofs.Facts.{Sound}

pub length-records : (n : ℕ) (l : List ℕ) (at : ℕ) → length (records_from n l at) ≡ n
length-records zero l at = refl
length-records (suc n) l at = ap suc (length-records n l (at + 40))

-- the first of some, and the others
pub first-record : (n : ℕ) (l : List ℕ) (at : ℕ) → 0 < n → records_from n l at ≡ decoded l at ∷ records_from (n - 1) l (at + 40)
first-record zero l at h = absurd (omega arith)
first-record (suc n) l at h = let e : suc n - 1 ≡ n = omega arith in rw e

pub length-note : (l : List ℕ) → Sound l → 32 + length (note_in l) ≡ offset_in l
length-note l s = simp (length-take, length-drop) (omega arith)
