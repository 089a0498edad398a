-- What each answer of the log leaves for C.
use mathlib.Core.Path.{◌≡◌, refl, ap, sym, ◌∙◌}
use mathlib.Core.List.{List, [], ◌∷◌, append-nil}
use Prim.Native.Nat.{suc, zero, ℕ, ◌+◌}
use native.Mathlib.Omega.{arith}
use lib.ListN.{drop, get_or, length, replicate, set}
use denote.Ref.{Bor}
use lib.Seq.{sets, sets-eq}
use Rattle.log_codec.specs.Headers.{encoded_header}
use Rattle.log_codec.specs.Records.{encoded}
use Rattle.log_codec.specs.declared.Header.{Header}
use Rattle.log_codec.specs.declared.Record.{Record}
use Rattle.log_codec.proofs.RoundTrip.{length-encoded, length-header}
use Rattle.std.specs.Prelude.{Option, Result, Ok, Err, ⊤}
use Rattle.call_log.specs.Answers.{Answer, Turn, end, given, handed, refusal_in, refusal_number, refused, turn_of}
use Rattle.call_log.specs.Layout.{note_in}
use Rattle.call_log.specs.Reader.{Part, note_of, note_part, part_of, place_after, settings_of}
use Rattle.call_log.specs.Writer.{Reply, add, add_refusal, added, reply_of, unless_refused}
use Rattle.call_log.specs.declared.Refusal.{Refusal}
use Rattle.call_log.specs.declared.Refusal.TheVariants.{Trailer, Settings, Fault, Room}
use Rattle.call_log.specs.declared.Writer.{Writer}
use Rattle.call_log.proofs.Opened.{opens, refuses}
use Rattle.log_c.specs.Codes.{answer_code, code_of, note_words, part_words, settings_bytes, turn_bytes, turn_code, writer_of, writer_words}

-- 100 and the number
refusal-code : (r : Refusal) → 100 + refusal_number r ≡ code_of (refusal_number r)
refusal-code Trailer = refl
refusal-code Settings = refl
refusal-code Fault = refl
refusal-code Room = refl

pub no_code : {a : Result ⊤ Refusal} {r : Refusal} {n : ℕ} → a ≡ Err r → n ≡ refusal_number r → 100 + n ≡ code_of (refusal_in a)
no_code {a} {r} {n} e f = ap (λ m. 100 + m) f ∙ refusal-code r ∙ ap (λ (x : Result ⊤ Refusal). code_of (refusal_in x)) (sym e)

-- a writer's call: what it returned and left, and its reply
pub written : (accepted : Result ⊤ Refusal) (w : Writer) {bytes : List ℕ} {a : Reply} {n : ℕ} → reply_of accepted w bytes ≡ a → n ≡ code_of (refusal_in accepted) →
    (n ≡ code_of a.refusal) × (w.offset ∷ w.count ∷ [] ≡ writer_words a.writer) × (bytes ≡ a.bytes)
written accepted w e f = (f ∙ ap (λ a. code_of a.refusal) e, ap (λ a. writer_words a.writer) e, ap (λ a. a.bytes) e)

-- an addition leaves the offset
add-offset : (w : Writer) (r : Record) (l : List ℕ) → (add w r l).writer.offset ≡ w.offset
unfolding add
add-offset w r l = go (add_refusal w r (length l))
  where
    go : (n : ℕ) →
        (unless_refused n w l (record { refusal = 0; writer = record { offset = w.offset; count = w.count + 1 }; bytes = added w r l })).writer.offset
        ≡ w.offset
    go zero = refl
    go (suc n) = refl

second-set : (words : List ℕ) (x : ℕ) → length words ≡ 2 → set words 1 x ≡ get_or words 0 0 ∷ x ∷ []
second-set [] x h = absurd (omega arith)
second-set (a ∷ []) x h = absurd (omega arith)
second-set (a ∷ b ∷ []) x h = refl
second-set (a ∷ b ∷ c ∷ l) x h = absurd (omega arith)

some_number : (r : Refusal) → refusal_number r ≡ 0 → ⊥
some_number Trailer e = omega arith
some_number Settings e = omega arith
some_number Fault e = omega arith
some_number Room e = omega arith

both_words : (words : List ℕ) → length words ≡ 2 → words ≡ get_or words 0 0 ∷ get_or words 1 0 ∷ []
both_words [] h = absurd (omega arith)
both_words (a ∷ []) h = absurd (omega arith)
both_words (a ∷ b ∷ []) h = refl
both_words (a ∷ b ∷ c ∷ l) h = absurd (omega arith)

-- a refused one leaves both
add-kept : (w : Writer) (r : Record) (l : List ℕ) → ((add w r l).refusal ≡ 0 → ⊥) → writer_words (add w r l).writer ≡ writer_words w
unfolding add
add-kept w r l h = go (add_refusal w r (length l)) h
  where
    go : (n : ℕ) →
        let a = unless_refused n w l (record { refusal = 0; writer = record { offset = w.offset; count = w.count + 1 }; bytes = added w r l }) in
        (a.refusal ≡ 0 → ⊥) → writer_words a.writer ≡ writer_words w
    go zero h = absurd (h refl)
    go (suc n) h = refl

-- of the two words an addition writes the count, and a refused one none
module _ (words : List ℕ) (two : length words ≡ 2) (r : Record) (l : List ℕ) (w : Writer) where
  abbrev a : Reply
  a = add (writer_of words) r l

  pub counted : {x : ⊤} {bytes : List ℕ} → reply_of (Ok x) w bytes ≡ a → (◌≡◌ {A = ℕ} 0 (code_of a.refusal)) × (set words 1 w.count ≡ writer_words a.writer) × (bytes ≡ a.bytes)
  counted {x} e =
      let p = written (Ok x) w e refl in
      let o : get_or words 0 0 ≡ w.offset = sym (add-offset (writer_of words) r l) ∙ ap (λ (a : Reply). a.writer.offset) (sym e) in
      (p.0, second-set words w.count two ∙ ap (λ (x : ℕ). x ∷ w.count ∷ []) o ∙ p.1, p.2)

  pub uncounted : (x : Refusal) {n : ℕ} {bytes : List ℕ} → reply_of (Err x) w bytes ≡ a → n ≡ refusal_number x →
      (100 + n ≡ code_of a.refusal) × (words ≡ writer_words a.writer) × (bytes ≡ a.bytes)
  uncounted x e f =
      let told : a.refusal ≡ refusal_number x = ap (λ (a : Reply). a.refusal) (sym e) in (
        ap (λ (m : ℕ). 100 + m) f ∙ refusal-code x ∙ ap code_of (sym told),
        both_words words two ∙ sym (add-kept (writer_of words) r l (λ z. some_number x (sym told ∙ z))),
        ap (λ (a : Reply). a.bytes) e,
      )

-- a list that is written over whole
sets-whole : (l a : List ℕ) → length a ≡ length l → sets l 0 a ≡ a
sets-whole l a e = sets-eq a l 0 (omega (arith, e)) ∙ rw (up, none l) (append-nil a)
  where
    up : 0 + length a ≡ length l
    up = omega (arith, e)

    none : (l : List ℕ) → drop (length l) l ≡ []
    none [] = refl
    none (x ∷ l) = none l

-- what was read, by the pattern that it meets
pub told : {o p : Option (Record × ℕ)} {a : Answer Turn} → o ≡ p → turn_of (Ok o) ≡ a → turn_of (Ok p) ≡ a
told f e = ap (λ (o : Option (Record × ℕ)). turn_of (Ok o)) (sym f) ∙ e

module _ (place : ℕ) {a : Answer Turn} where
  pub read-record : {r : Record} {next : ℕ} {bytes : List ℕ} → given (handed r next) ≡ a → bytes ≡ sets (replicate 40 0) 0 (encoded r) →
      (◌≡◌ {A = ℕ} 0 (turn_code a)) × (next ≡ place_after a place) × (bytes ≡ turn_bytes a)
  read-record {r} f g =
      (ap turn_code f, ap (λ x. place_after x place) f, g ∙ sets-whole (replicate 40 0) (encoded r) (length-encoded r) ∙ ap turn_bytes f)

  pub read-end : given end ≡ a → (◌≡◌ {A = ℕ} 1 (turn_code a)) × (place ≡ place_after a place) × (replicate 40 0 ≡ turn_bytes a)
  read-end f = (ap turn_code f, ap (λ x. place_after x place) f, ap turn_bytes f)

  pub read-refused : {r : ℕ} {n : ℕ} → refused r ≡ a → n ≡ r → (100 + n ≡ turn_code a) × (place ≡ place_after a place) × (replicate 40 0 ≡ turn_bytes a)
  read-refused f g = (ap (λ m. 100 + m) g ∙ ap turn_code f, ap (λ x. place_after x place) f, ap turn_bytes f)

module _ {a : Answer Header} where
  pub settings-read : {h : Header} {bytes : List ℕ} → given h ≡ a → bytes ≡ sets (replicate 32 0) 0 (encoded_header h) →
      (◌≡◌ {A = ℕ} 0 (answer_code a)) × (bytes ≡ settings_bytes a)
  settings-read {h} f g = (ap answer_code f, g ∙ sets-whole (replicate 32 0) (encoded_header h) (length-header h) ∙ ap settings_bytes f)

  pub settings-refused : {r n : ℕ} → refused r ≡ a → n ≡ r → (100 + n ≡ answer_code a) × (replicate 32 0 ≡ settings_bytes a)
  settings-refused f g = (ap (λ m. 100 + m) g ∙ ap answer_code f, ap settings_bytes f)

-- settings and note are refused alike
module _ (log : Bor (List ℕ)) where
  note-given : {h : Header} → given h ≡ settings_of log.now → note_of log.now ≡ given (note_in log.now)
  unfolding note_of
  note-given e = let o = opens log.now e in rw (o.trailer, o.settings)

  pub note-read : (part : Bor (List ℕ)) {h : Header} {words : List ℕ} → given h ≡ settings_of log.now → part_of part ≡ note_part log (note_of log.now) →
      words ≡ part_words 32 (length part.now) →
      (◌≡◌ {A = ℕ} 0 (answer_code (note_of log.now))) × (words ≡ note_words (note_of log.now))
  note-read part e g w =
      let f = note-given e in
      let n : part.now ≡ note_in log.now = ap (λ (p : Part). p.1) (g ∙ ap (note_part log) f) in
      (ap answer_code (sym f), w ∙ ap (λ l. part_words 32 (length l)) n ∙ ap note_words (sym f))

  pub note-refused : {r n : ℕ} → refused r ≡ settings_of log.now → n ≡ r →
      (100 + n ≡ answer_code (note_of log.now)) × (0 ∷ 0 ∷ [] ≡ note_words (note_of log.now))
  unfolding note_of
  note-refused e g =
      let f = refuses log.now (given (note_in log.now)) e in (ap (λ m. 100 + m) g ∙ ap answer_code f, ap note_words f)

pub empty-part : (from n : ℕ) → n ≡ 0 → 0 ∷ 0 ∷ [] ≡ part_words from n
empty-part from n e = rw e refl

pub some-part : (from n : ℕ) → (n ≡ 0 → ⊥) → from ∷ n ∷ [] ≡ part_words from n
some-part from zero h = absurd (h refl)
some-part from (suc n) h = refl
