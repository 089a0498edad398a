-- The numbers of a replay's refusals, and the code that follows from what it handed back.
use mathlib.Core.Path.{◌≡◌, refl, ap, ◌∙◌}
use mathlib.Core.Bool.{Bool, true, false, cond}
use mathlib.Core.List.{List, [], ◌∷◌}
use Prim.Native.Nat.{ℕ, zero, suc, ◌+◌, ◌<◌, ◌≤◌}
use native.Mathlib.Omega.{arith}
use lib.ListN.{length}
use Rattle.refusals.specs.Answer.{Answer}
use Rattle.ring.specs.Refusals.{tables_refused}
use Rattle.log_codec.specs.declared.Record.{Record}
use Rattle.ring.specs.Calls.{Queue, after, answer_of}
use Rattle.call_log.specs.Answers.{given, refused as log_refused}
use Rattle.call_log.specs.Faults.{header_refused}
use Rattle.call_log.specs.Layout.{header_in, note_in, records_in}
use Rattle.call_log.specs.Reader.{trailer_refused}
use Rattle.call_log.specs.Whole.{Contents, any_faulty, read_whole}
use Rattle.replay.specs.Agreement.{disagreement, request_of}
use Rattle.replay.specs.Replay.{Replay, accepted, disagrees, fresh_queue, refused, replay, replay_contents, replay_from, replay_read, unless_disagrees}
use Rattle.std.specs.Prelude.{Option, None, Some, Ok, Err}
use Rattle.std.specs.Option.{is_some}
use Rattle.call_log.specs.declared.Refusal.TheVariants.{Trailer, Settings, Fault, Room}
use Rattle.replay.specs.Replied.{Handed, handed_of, replayed_of}
use Rattle.replay.specs.Told.{field_number, refusal_number, refusal_told, verdict_told}
use Rattle.replay.specs.declared.Field.{Field}
use Rattle.replay.specs.declared.Field.TheVariants.{Verdict, Probability, Bytes}
use Rattle.replay.specs.declared.Refusal.{Refusal}
use Rattle.replay.specs.declared.Refusal.TheVariants.{Log, Tables}
use Rattle.replay.specs.declared.Replayed.{Replayed}
use Rattle.replay.specs.Found.{code_of, words_of}

-- a refusal's number is one of 1 to 13
abbrev pub Numbered : Replay → Type 0
Numbered (refused number) = (0 < number) × (number ≤ 13)
Numbered (accepted records q) = Unit {0}
Numbered (disagrees number field answer q) = Unit {0}

unless-numbered : (number field : ℕ) (a : Answer) (q : Queue) (next : Replay) → Numbered next → Numbered (unless_disagrees number field a q next)
unless-numbered number zero a q next h = h
unless-numbered number (suc f) a q next h = tt

from-numbered : (number : ℕ) (q : Queue) (records : List Record) → Numbered (replay_from number q records)
unfolding replay_from
from-numbered number q [] = tt
from-numbered number q (r ∷ rest) =
    let next = after q (request_of r) in
    unless-numbered number (disagreement r (answer_of q (request_of r)) next.state) (answer_of q (request_of r)) next _
    (from-numbered (number + 1) next rest)

contents-numbered : (c : Contents) (handles sizes : List ℕ) → Numbered (replay_contents c handles sizes)
contents-numbered c handles sizes = go (tables_refused (fresh_queue c.header handles sizes).state (length handles) (length sizes))
  where
    go : (b : Bool) → Numbered (cond b (refused 3) (replay_from 0 (fresh_queue c.header handles sizes) c.records))
    go true = omega arith
    go false = from-numbered 0 (fresh_queue c.header handles sizes) c.records

read-numbered : (t h f : Bool) (c : Contents) (handles sizes : List ℕ) →
    Numbered (replay_read (cond t (log_refused 11) (cond h (log_refused 12) (cond f (log_refused 13) (given c)))) handles sizes)
read-numbered true h f c handles sizes = omega arith
read-numbered false true f c handles sizes = omega arith
read-numbered false false true c handles sizes = omega arith
read-numbered false false false c handles sizes = contents-numbered c handles sizes

pub numbered : (l handles sizes : List ℕ) → Numbered (replay l handles sizes)
unfolding replay read_whole
numbered l handles sizes =
    read-numbered (trailer_refused l) (header_refused (header_in l)) (any_faulty (records_in l))
    (record { header = header_in l; note = note_in l; records = records_in l }) handles sizes

pub small : (a : Replay) → Numbered a → (replayed_of a).refused ≤ 13
small (refused n) h = h.1
small (accepted n q) h = omega arith
small (disagrees n f x q) h = omega arith

-- the code of a refusal
pub refusal-code : (a : Replay) → Numbered a → 0 < (replayed_of a).refused → 100 + (replayed_of a).refused ≡ code_of a
refusal-code (refused n) h p = refl
refusal-code (accepted n q) h p = let w : ⊥ = omega arith in absurd w
refusal-code (disagrees n f x q) h p = let w : ⊥ = omega arith in absurd w

-- and of a log that was replayed
pub field-code : (a : Replay) → Numbered a → (replayed_of a).refused ≤ 0 → (replayed_of a).field ≡ code_of a
field-code (refused n) h p = let w : ⊥ = omega arith in absurd w
field-code (accepted n q) h p = refl
field-code (disagrees n f x q) h p = refl

-- a field has a number above 0
pub some-field : (f : Option Field) → is_some f ≡ true → 0 < field_number f
some-field None e = absurd (cc)
some-field (Some Verdict) e = omega arith
some-field (Some Probability) e = omega arith
some-field (Some Bytes) e = omega arith

pub no-field : (f : Option Field) → is_some f ≡ false → field_number f ≡ 0
no-field None e = refl
no-field (Some f) e = absurd (cc)

pub above : (r : Refusal) → 0 < refusal_number r
above (Log Trailer) = omega arith
above (Log Settings) = omega arith
above (Log Fault) = omega arith
above (Log Room) = omega arith
above Tables = omega arith

module _ (a : Replay) (k : Numbered a) where
  -- what C gets of a log that was replayed
  pub replayed : (r : Replayed) {n : ℕ} {w : List ℕ} → handed_of (Ok r) ≡ replayed_of a → n ≡ field_number r.field →
      w ≡ r.number ∷ refusal_told r.answer ∷ verdict_told r.answer ∷ r.prob ∷ r.bytes ∷ [] → (n ≡ code_of a) × (w ≡ words_of a)
  replayed r e f g =
      let p : (replayed_of a).refused ≤ 0 = omega (arith, ap (λ (x : Handed). x.refused) e) in
      (f ∙ ap (λ (x : Handed). x.field) e ∙ field-code a k p, g ∙ ap (λ (x : Handed). x.number ∷ x.refusal ∷ x.verdict ∷ x.prob ∷ x.bytes ∷ []) e)

  -- and of one that was not
  pub unreplayed : (r : Refusal) {n : ℕ} → handed_of (Err r) ≡ replayed_of a → n ≡ refusal_number r →
      (100 + n ≡ code_of a) × (0 ∷ 0 ∷ 0 ∷ 0 ∷ 0 ∷ [] ≡ words_of a)
  unreplayed r e f =
      let n = ap (λ (x : Handed). x.refused) e in
      let p : 0 < (replayed_of a).refused = omega (arith, n, above r) in
      (ap (λ (m : ℕ). 100 + m) (f ∙ n) ∙ refusal-code a k p, ap (λ (x : Handed). x.number ∷ x.refusal ∷ x.verdict ∷ x.prob ∷ x.bytes ∷ []) e)
