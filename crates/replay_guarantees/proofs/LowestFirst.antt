-- Of 11, 12 and 13 the lowest that applies is given.
use mathlib.Core.Path.{◌≡◌, refl, subst, ap}
use mathlib.Core.Logic.{◌≢◌}
use mathlib.Core.Bool.{true}
use mathlib.Core.List.{List, Memᴰ}
use Prim.Native.Nat.{ℕ}
use Rattle.refusals.proofs.Ordered.{test-fails}
use Rattle.call_log.specs.Answers.{Answer, refused as log_refused}
use Rattle.call_log.specs.Whole.{Contents, read_whole}
use Rattle.log_guarantees.specs.LowestFirst.{whole_rows}
use Rattle.log_guarantees.proofs.LowestFirst.{lowest-first as log-lowest-first, order-of}
use Rattle.replay.specs.Replay.{refused, replay, replay_read}
use Rattle.replay_guarantees.specs.AnyLog.{RefusedBy, fault, settings, tables, trailer}
use Rattle.replay_guarantees.specs.LowestFirst.{LowestFirst}
use Rattle.replay_guarantees.proofs.AnyLog.{any-log}

module _ (log handles sizes : List ℕ) where
  -- a log that is refused when it is read whole is refused by the replay
  passed_on : (n : ℕ) → read_whole log ≡ log_refused n → (n ≢ 3) × (replay log handles sizes ≡ refused n)
  unfolding replay
  passed_on n e = (
    λ z. test-fails 3 (whole_rows log) refl
        (subst (λ (k : ℕ). Memᴰ (k, true) (whole_rows log)) z ((log-lowest-first.whole log).lowest n e).0),
    ap (λ (a : Answer Contents). replay_read a handles sizes) e,
  )

  -- and only such a log is refused by another number than 3
  from-log : (n : ℕ) → RefusedBy log handles sizes n → n ≢ 3 → read_whole log ≡ log_refused n
  unfolding read_whole
  from-log n (trailer t) h = rw t
  from-log n (settings t s) h = rw (t, s)
  from-log n (fault t s f) h = rw (t, s, f)
  from-log n (tables r w) h = absurd (h refl)

pub lowest-first : LowestFirst
lowest-first log handles sizes =
    order-of (whole_rows log) (λ n. read_whole log ≡ log_refused n) (λ n. (n ≢ 3) × (replay log handles sizes ≡ refused n))
    (passed_on log handles sizes)
    (λ n e. from-log log handles sizes n ((any-log log handles sizes (refused n)).0 e.1) e.0)
    (log-lowest-first.whole log)
