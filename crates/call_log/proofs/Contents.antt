-- What a log that reads whole has: for the theorems over runs, and for whoever reads whole first.
use mathlib.Core.Path.{◌≡◌, refl}
use mathlib.Core.Bool.{Bool, true, false}
use mathlib.Core.List.{List}
use Prim.Native.Nat.{ℕ}
use native.Mathlib.Omega.{arith}
use Rattle.call_log.specs.Answers.{given, refused}
use Rattle.call_log.specs.Faults.{header_refused}
use Rattle.call_log.specs.Layout.{header_in, note_in, records_in}
use Rattle.call_log.specs.Reader.{trailer_refused}
use Rattle.call_log.specs.Whole.{Contents, any_faulty, read_whole}

pub record IsWhole (log : List ℕ) (c : Contents) : Type 0 where
  pub trailer : trailer_refused log ≡ false
  pub settings : header_refused (header_in log) ≡ false
  pub faultless : any_faulty (records_in log) ≡ false
  pub contents : record { header = header_in log; note = note_in log; records = records_in log } ≡ c

clash : {n : ℕ} {c : Contents} → refused n ≡ given c → ⊥
clash e = let z : ◌≡◌ {A = ℕ} 0 1 = cc in omega arith

by_cases : (l : List ℕ) (c : Contents) (t h f : Bool) → trailer_refused l ≡ t → header_refused (header_in l) ≡ h → any_faulty (records_in l) ≡ f →
    read_whole l ≡ given c → IsWhole l c
unfolding read_whole
by_cases l c true true true et eh ef e = absurd (clash (simp (et, eh, ef) at e))
by_cases l c true true false et eh ef e = absurd (clash (simp (et, eh, ef) at e))
by_cases l c true false true et eh ef e = absurd (clash (simp (et, eh, ef) at e))
by_cases l c true false false et eh ef e = absurd (clash (simp (et, eh, ef) at e))
by_cases l c false true true et eh ef e = absurd (clash (simp (et, eh, ef) at e))
by_cases l c false true false et eh ef e = absurd (clash (simp (et, eh, ef) at e))
by_cases l c false false true et eh ef e = absurd (clash (simp (et, eh, ef) at e))
by_cases l c false false false et eh ef e = let g = simp (et, eh, ef) at e in record { trailer = et; settings = eh; faultless = ef; contents = cc }

pub is_whole : (l : List ℕ) (c : Contents) → read_whole l ≡ given c → IsWhole l c
is_whole l c e = by_cases l c (trailer_refused l) (header_refused (header_in l)) (any_faulty (records_in l)) refl refl refl e

pub reads_whole : (l : List ℕ) (c : Contents) → IsWhole l c → read_whole l ≡ given c
unfolding read_whole
reads_whole l c w = rw (w.trailer, w.settings, w.faultless, w.contents)
