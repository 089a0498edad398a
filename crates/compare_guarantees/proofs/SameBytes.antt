-- Two logs are found equal exactly if they are the same bytes.
use mathlib.Core.Path.{◌≡◌, refl, sym, ap, ◌∙◌}
use Prim.Native.Nat.{ℕ}
use native.Mathlib.Omega.{arith}
use lib.ListN.{length}
use Rattle.call_log.specs.Answers.{Answer, given, refused}
use Rattle.call_log.specs.Whole.{Contents, read_whole}
use Rattle.log_guarantees.proofs.OneForm.{one_form}
use Rattle.compare.specs.Compare.{equal}
use Rattle.compare_guarantees.specs.ExactlyIf.{ReadGrounds}
use Rattle.compare_guarantees.specs.SameBytes.{SameBytes}
use Rattle.compare_guarantees.proofs.ExactlyIf.{exactly-if}

-- where they are found equal, the second holds what the first does
same-contents : (a : Contents) (second : Answer Contents) (n : ℕ) → ReadGrounds (given a) second (equal n) → second ≡ given a
same-contents a (refused m) n g = let z : ◌≡◌ {A = ℕ} 0 1 = cc in absurd (omega arith)
same-contents a (given b) n g = ap given (sym g.0)

pub same_bytes : SameBytes
same_bytes first second a p q e =
    let n = length a.records in (
      λ f.
          let g : ReadGrounds (given a) (read_whole second) (equal n) = rw e at ((exactly-if first second (equal n)).0 f) in
          one_form first a p e ∙ sym (one_form second a q (same-contents a (read_whole second) n g)),
      λ f.
          let r : read_whole second ≡ given a = ap read_whole (sym f) ∙ e in
          let g : ReadGrounds (given a) (given a) (equal n) = (refl, refl) in
          (exactly-if first second (equal n)).1 (rw (e, r) g),
    )
