-- What the writer replies, from what its tests say.
use mathlib.Core.Path.{◌≡◌, refl}
use mathlib.Core.Bool.{Bool, true, false, not, ◌||◌}
use mathlib.Core.List.{List, [], ◌∷◌}
use Prim.Native.Nat.{ℕ, ◌+◌, ◌*◌, ◌<◌, ◌≤◌}
use native.Mathlib.Omega.{arith}
use borrow.Author.Tests.{ltb-false}
use lib.Dec.{leb, ltb}
use lib.ListN.{length}
use Rattle.laws.specs.Tests.{all}
use Rattle.refusals.specs.Rows.{first_refusal}
use Rattle.log_codec.specs.declared.Header.{Header}
use Rattle.log_codec.specs.declared.Record.{Record}
use Rattle.call_log.specs.Faults.{faulty, header_refused}
use Rattle.call_log.specs.Layout.{length_of}
use Rattle.call_log.specs.Writer.{Reply, add, add_refusal, added, begin, begin_refusal, begun, unless_refused, writer_conditions, zero_writer}
use Rattle.call_log.specs.declared.Refusal.{Refusal}
use Rattle.call_log.specs.declared.Refusal.TheVariants.{Trailer, Settings, Fault, Room}
use Rattle.call_log.specs.declared.Writer.{Writer}
use Rattle.call_log.specs.Answers.{refusal_number}
use Rattle.call_log.proofs.Facts.{held, roomy}

-- a refusal of the code, by its number
refused-reply : (x : Refusal) (w : Writer) (l : List ℕ) (a : Reply) →
    ◌≡◌ {A = Reply} (record { refusal = refusal_number x; writer = w; bytes = l }) (unless_refused (refusal_number x) w l a)
refused-reply Trailer w l a = refl
refused-reply Settings w l a = refl
refused-reply Fault w l a = refl
refused-reply Room w l a = refl

module _ (w : Writer) (r : Record) (l : List ℕ) where
  pub add-refused : (x : Refusal) → refusal_number x ≡ add_refusal w r (length l) →
      ◌≡◌ {A = Reply} (record { refusal = refusal_number x; writer = w; bytes = l }) (add w r l)
  unfolding add
  add-refused x e = rw (← e) (refused-reply x w l _)

  pub add-accepted : 0 ≡ add_refusal w r (length l) → {m : List ℕ} → m ≡ added w r l →
      ◌≡◌ {A = Reply} (record { refusal = 0; writer = record { offset = w.offset; count = w.count + 1 }; bytes = m }) (add w r l)
  unfolding add
  add-accepted e k = rw (← e, k)

  -- an accepted record has room
  pub room : (n : ℕ) → 0 ≡ add_refusal w r n → (w.offset ≤ 4128) × (w.count < 100000) × (w.offset + 40 * (w.count + 1) + 16 ≤ n)
  unfolding add_refusal
  room n e = go (all (writer_conditions w n)) (faulty r) (leb 100000 w.count || ltb n (length_of w.offset (w.count + 1))) refl refl e
    where
      go : (t f g : Bool) → all (writer_conditions w n) ≡ t → (leb 100000 w.count || ltb n (length_of w.offset (w.count + 1))) ≡ g →
          0 ≡ first_refusal ((11, not t) ∷ (13, f) ∷ (14, g) ∷ []) →
          (w.offset ≤ 4128) × (w.count < 100000) × (w.offset + 40 * (w.count + 1) + 16 ≤ n)
      go false f g et eg e = absurd (omega arith)
      go true true g et eg e = absurd (omega arith)
      go true false true et eg e = absurd (omega arith)
      go true false false et eg e = let h = held w n et in let q = roomy w n eg in (h.high, q.0, q.1)

  pub add-14 : not (all (writer_conditions w (length l))) ≡ false → faulty r ≡ false →
      (leb 100000 w.count || ltb (length l) (length_of w.offset (w.count + 1))) ≡ true →
      ◌≡◌ {A = Reply} (record { refusal = 14; writer = w; bytes = l }) (add w r l)
  unfolding add add_refusal
  add-14 e f g = rw (e, f, g)

  pub add_done : not (all (writer_conditions w (length l))) ≡ false → faulty r ≡ false →
      (leb 100000 w.count || ltb (length l) (length_of w.offset (w.count + 1))) ≡ false → {m : List ℕ} → m ≡ added w r l →
      ◌≡◌ {A = Reply} (record { refusal = 0; writer = record { offset = w.offset; count = w.count + 1 }; bytes = m }) (add w r l)
  unfolding add add_refusal
  add_done e f g k = rw (e, f, g, k)

module _ (h : Header) (note l : List ℕ) where
  pub begin-refused : (x : Refusal) → refusal_number x ≡ begin_refusal h (length note) (length l) →
      ◌≡◌ {A = Reply} (record { refusal = refusal_number x; writer = zero_writer; bytes = l }) (begin h note l)
  unfolding begin
  begin-refused x e = rw (← e) (refused-reply x zero_writer l _)

  pub begin-accepted : 0 ≡ begin_refusal h (length note) (length l) → {m : List ℕ} → m ≡ begun h note l →
      ◌≡◌ {A = Reply} (record { refusal = 0; writer = record { offset = 32 + length note; count = 0 }; bytes = m }) (begin h note l)
  unfolding begin
  begin-accepted e k = rw (← e, k)

  -- settings and note that are accepted have room
  pub fits : (n b : ℕ) → 0 ≡ begin_refusal h n b → (n ≤ 4096) × (48 + n ≤ b)
  unfolding begin_refusal
  fits n b e = go (header_refused h) (ltb 4096 n) (ltb b (48 + n)) refl refl e
    where
      go : (t f g : Bool) → ltb 4096 n ≡ f → ltb b (48 + n) ≡ g → 0 ≡ first_refusal ((12, t) ∷ (14, f || g) ∷ []) → (n ≤ 4096) × (48 + n ≤ b)
      go true f g ef eg e = absurd (omega arith)
      go false true g ef eg e = absurd (omega arith)
      go false false true ef eg e = absurd (omega arith)
      go false false false ef eg e = (ltb-false _ _ ef, ltb-false _ _ eg)

  pub begin-done : header_refused h ≡ false → ltb 4096 (length note) ≡ false → ltb (length l) (48 + length note) ≡ false → {m : List ℕ} →
      m ≡ begun h note l → ◌≡◌ {A = Reply} (record { refusal = 0; writer = record { offset = 32 + length note; count = 0 }; bytes = m }) (begin h note l)
  unfolding begin begin_refusal
  begin-done e f g k = rw (e, f, g, k)
