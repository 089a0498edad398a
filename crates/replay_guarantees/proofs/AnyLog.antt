-- What a replay answers to any bytes and any tables: case by case.
use mathlib.Core.Path.{◌≡◌, refl, sym, subst, ◌∙◌}
use mathlib.Core.Bool.{Bool, true, false}
use mathlib.Core.List.{List}
use Prim.Native.Nat.{ℕ}
use lib.ListN.{length}
use Rattle.call_log.specs.Faults.{header_refused}
use Rattle.call_log.specs.Layout.{header_in, records_in}
use Rattle.call_log.specs.Reader.{trailer_refused}
use Rattle.call_log.specs.Whole.{any_faulty, read_whole}
use Rattle.ring.specs.Calls.{Queue}
use Rattle.replay.specs.Replay.{Replay, accepted, disagrees, fresh_queue, refused, replay, replay_from}
use Rattle.replay_guarantees.specs.AnyLog.{AnyLog, Fits, LogGrounds, Reads, RefusedBy, fault, misfit, settings, tables, trailer}
use Rattle.replay_guarantees.specs.EachAnswer.{Grounds}
use Rattle.replay_guarantees.proofs.EachAnswer.{each-answer}

module _ (log handles sizes : List ℕ) where
  abbrev misfits : Bool
  misfits = misfit (header_in log).slots (length handles) (length sizes)

  abbrev fresh : Queue
  fresh = fresh_queue (header_in log) handles sizes

  by-11 : trailer_refused log ≡ true → replay log handles sizes ≡ refused 11
  unfolding replay read_whole
  by-11 t = rw t

  by-12 : trailer_refused log ≡ false → header_refused (header_in log) ≡ true → replay log handles sizes ≡ refused 12
  unfolding replay read_whole
  by-12 t h = rw (t, h)

  by-13 : trailer_refused log ≡ false → header_refused (header_in log) ≡ false → any_faulty (records_in log) ≡ true →
      replay log handles sizes ≡ refused 13
  unfolding replay read_whole
  by-13 t h f = rw (t, h, f)

  by-3 : Reads log → misfits ≡ true → replay log handles sizes ≡ refused 3
  unfolding replay read_whole
  by-3 r w = rw (r.trailer, r.settings, r.records, w)

  runs : Fits log handles sizes → replay log handles sizes ≡ replay_from 0 fresh (records_in log)
  unfolding replay read_whole
  runs f = rw (f.reads.trailer, f.reads.settings, f.reads.records, f.fit)

  refuses : (n : ℕ) → RefusedBy log handles sizes n → replay log handles sizes ≡ refused n
  refuses n (trailer t) = by-11 t
  refuses n (settings t h) = by-12 t h
  refuses n (fault t h f) = by-13 t h f
  refuses n (tables r w) = by-3 r w

  answers : (R : Replay) → LogGrounds log handles sizes R → replay log handles sizes ≡ R
  answers (refused n) g = refuses n g
  answers (accepted n left) (f, g) = runs f ∙ (each-answer fresh (records_in log) (accepted n left)).1 g
  answers (disagrees n field a left) (f, g) =
      runs f ∙ (each-answer fresh (records_in log) (disagrees n field a left)).1 g

  -- the answer of the rules has the rules' ground
  ruled : Fits log handles sizes → (R : Replay) → Grounds fresh (records_in log) R → LogGrounds log handles sizes R
  ruled f (refused n) g = absurd g
  ruled f (accepted n left) g = (f, g)
  ruled f (disagrees n field a left) g = (f, g)

  -- the answer has a ground, whatever the tests say
  ground : (t h f w : Bool) → trailer_refused log ≡ t → header_refused (header_in log) ≡ h → any_faulty (records_in log) ≡ f → misfits ≡ w →
      LogGrounds log handles sizes (replay log handles sizes)
  ground true h f w et eh ef ew = subst (LogGrounds log handles sizes) (sym (by-11 et)) (trailer et)
  ground false true f w et eh ef ew = subst (LogGrounds log handles sizes) (sym (by-12 et eh)) (settings et eh)
  ground false false true w et eh ef ew = subst (LogGrounds log handles sizes) (sym (by-13 et eh ef)) (fault et eh ef)
  ground false false false true et eh ef ew =
      let r : Reads log = record { trailer = et; settings = eh; records = ef } in
      subst (LogGrounds log handles sizes) (sym (by-3 r ew)) (tables r ew)
  ground false false false false et eh ef ew =
      let f : Fits log handles sizes = record { reads = record { trailer = et; settings = eh; records = ef }; fit = ew } in
      let R = replay_from 0 fresh (records_in log) in
      subst (LogGrounds log handles sizes) (sym (runs f)) (ruled f R ((each-answer fresh (records_in log) R).0 refl))

pub any-log : AnyLog
any-log log handles sizes R = (
  λ e. subst (LogGrounds log handles sizes) e (
      ground log handles sizes (trailer_refused log) (header_refused (header_in log)) (any_faulty (records_in log)) (misfits log handles sizes) refl refl refl refl
      ),
  answers log handles sizes R,
)
