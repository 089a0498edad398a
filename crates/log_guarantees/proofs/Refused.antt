-- A refused call changes nothing.
use mathlib.Core.Path.{◌≡◌, refl, ap}
use mathlib.Core.Logic.{◌≢◌}
use mathlib.Core.List.{List}
use Prim.Native.Nat.{ℕ, zero, suc, ◌+◌}
use lib.ListN.{length}
use Rattle.call_log.specs.Answers.{Answer, Turn}
use Rattle.call_log.specs.Reader.{place_after}
use Rattle.call_log.specs.Writer.{Reply, add, add_refusal, begin, begin_refusal, begun, added, unless_refused, zero_writer}
use Rattle.call_log.specs.declared.Writer.{Writer}
use Rattle.log_guarantees.specs.Refused.{Refused}

module _ (w : Writer) (bytes : List ℕ) (a : Reply) (accepted : a.refusal ≡ 0) where
  same_bytes : (k : ℕ) → (unless_refused k w bytes a).refusal ≢ 0 → (unless_refused k w bytes a).bytes ≡ bytes
  same_bytes zero e = absurd (e accepted)
  same_bytes (suc k) e = refl

  same-state : (k : ℕ) → (unless_refused k w bytes a).refusal ≢ 0 → (unless_refused k w bytes a).writer ≡ w
  same-state zero e = absurd (e accepted)
  same-state (suc k) e = refl

pub refused-calls : Refused
unfolding begin add add_refusal
refused-calls = record {
  begin-bytes = λ h note bytes.
      same_bytes zero_writer bytes (record { refusal = 0; writer = record { offset = 32 + length note; count = 0 }; bytes = begun h note bytes }) refl
      (begin_refusal h (length note) (length bytes));
  begin-state = λ h note bytes.
      same-state zero_writer bytes (record { refusal = 0; writer = record { offset = 32 + length note; count = 0 }; bytes = begun h note bytes }) refl
      (begin_refusal h (length note) (length bytes));
  zero-state = λ r bytes. refl;
  add-bytes = λ w r bytes.
      same_bytes w bytes (record { refusal = 0; writer = record { offset = w.offset; count = w.count + 1 }; bytes = added w r bytes }) refl
      (add_refusal w r (length bytes));
  add-state = λ w r bytes.
      same-state w bytes (record { refusal = 0; writer = record { offset = w.offset; count = w.count + 1 }; bytes = added w r bytes }) refl
      (add_refusal w r (length bytes));
  read = λ log place number e. ap (λ (a : Answer Turn). place_after a place) e;
  at-end = λ log place e. ap (λ (a : Answer Turn). place_after a place) e;
}
