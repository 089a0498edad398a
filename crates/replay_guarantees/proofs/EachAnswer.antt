-- Each answer of the replay of a list of records, on its ground.
use mathlib.Core.Path.{◌≡◌, refl, ap, ◌∙◌}
use mathlib.Core.Logic.{◌≢◌}
use mathlib.Core.List.{List, [], ◌∷◌, ◌++◌}
use Prim.Native.Nat.{ℕ, zero, suc, ◌+◌}
use native.Mathlib.Omega.{arith}
use borrow.Author.Tests.{eq-eqb, ne_eqb}
use lib.ListN.{length}
use Rattle.refusals.specs.Answer.{Answer}
use Rattle.ring.specs.declared.State.{State}
use Rattle.log_codec.specs.declared.Record.{Record}
use Rattle.ring.specs.Calls.{Queue, answer_of}
use Rattle.replay.specs.Agreement.{disagreement, refusal_in, request_of, verdict_in}
use Rattle.replay.specs.Replay.{Replay, accepted, disagrees, refused as misread, replay_from, unless_disagrees}
use Rattle.replay.specs.Replied.{bytes_in, prob_in}
use Rattle.replay_guarantees.specs.EachAnswer.{EachAnswer, Grounds}
use Rattle.replay_guarantees.specs.ExactlyIf.{AllAgree, Field, after_all, after_record}
use Rattle.replay_guarantees.specs.ExactlyIf.{bytes, none, probability, refused, verdict}
use Rattle.replay_guarantees.proofs.ExactlyIf.{exactly-if}

module _ (r : Record) (a : Answer) (s : State) where
  -- the field that disagrees is the one that is named
  named : (n : ℕ) → Field r a s n → disagreement r a s ≡ n
  unfolding disagreement
  named n (none e f g h) =
      rw (eq-eqb (refusal_in a) 0 e, eq-eqb r.verdict (verdict_in a) f, eq-eqb r.prob (prob_in s) g, eq-eqb r.bytes (bytes_in s) h)
  named n (refused e) = rw (ne_eqb (refusal_in a) 0 e)
  named n (verdict e f) = rw (eq-eqb (refusal_in a) 0 e, ne_eqb r.verdict (verdict_in a) f)
  named n (probability e f g) =
      rw (eq-eqb (refusal_in a) 0 e, eq-eqb r.verdict (verdict_in a) f, ne_eqb r.prob (prob_in s) g)
  named n (bytes e f g h) =
      rw (eq-eqb (refusal_in a) 0 e, eq-eqb r.verdict (verdict_in a) f, eq-eqb r.prob (prob_in s) g, ne_eqb r.bytes (bytes_in s) h)

-- the rules' answer at the record after `before`, and the queue that they leave
module _ (q : Queue) (before : List Record) (it : Record) where
  abbrev ruling : Answer
  ruling = answer_of (after_all q before) (request_of it)

  abbrev leaving : Queue
  leaving = after_record (after_all q before) it

names-from : (before : List Record) (number : ℕ) (q : Queue) (it : Record) (rest : List Record) (k : ℕ) → AllAgree q before →
    Field it (ruling q before it) (leaving q before it).state (suc k) →
    replay_from number q (before ++ it ∷ rest) ≡ disagrees (number + length before) (suc k) (ruling q before it) (leaving q before it)
unfolding replay_from
names-from [] number q it rest k all f =
    let e : number ≡ number + 0 = omega arith in
    rw (named it (ruling q [] it) (leaving q [] it).state (suc k) f) (ap (λ (m : ℕ). disagrees m (suc k) (ruling q [] it) (leaving q [] it)) e)
names-from (r ∷ before) number q it rest k all f =
    let next = after_record q r in
    let e : number + 1 + length before ≡ number + length (r ∷ before) = omega arith in
    rw (named r (answer_of q (request_of r)) next.state 0 all.0)
    (names-from before (number + 1) next it rest k all.1 f
    ∙ ap (λ (m : ℕ). disagrees m (suc k) (ruling next before it) (leaving next before it)) e)

some-field : (q : Queue) (before : List Record) (it : Record) (rest : List Record) (field : ℕ) → field ≢ 0 → AllAgree q before →
    Field it (ruling q before it) (leaving q before it).state field →
    replay_from 0 q (before ++ it ∷ rest) ≡ disagrees (length before) field (ruling q before it) (leaving q before it)
some-field q before it rest zero wrong all f = absurd (wrong refl)
some-field q before it rest (suc k) wrong all f =
    let z : 0 + length before ≡ length before = omega arith in
    names-from before 0 q it rest k all f ∙ ap (λ (m : ℕ). disagrees m (suc k) (ruling q before it) (leaving q before it)) z

answered : (q : Queue) (records : List Record) (R : Replay) → Grounds q records R → replay_from 0 q records ≡ R
answered q records (misread number) g = absurd g
answered q records (accepted n left) (all, counted, leaves) =
    rw (counted, leaves) ((exactly-if q records).accepts all)
answered q records (disagrees number field x left) w =
    let is : Field w.it (ruling q w.before w.it) (leaving q w.before w.it).state field =
    rw (w.ruled, w.leaves) at w.field_is in
    rw (w.split, w.counted, w.ruled, w.leaves) (some-field q w.before w.it w.rest field w.wrong w.agree is)

-- the records are refused on no ground
one-read : (number field : ℕ) (a : Answer) (next : Queue) (R : Replay) (n : ℕ) → R ≢ misread n → unless_disagrees number field a next R ≢ misread n
one-read number zero a next R n h e = h e
one-read number (suc field) a next R n h e = let z : ◌≡◌ {A = ℕ} 0 1 = cc in absurd (omega arith)

never-misread : (records : List Record) (number : ℕ) (q : Queue) (n : ℕ) → replay_from number q records ≢ misread n
unfolding replay_from
never-misread [] number q n e = let z : ◌≡◌ {A = ℕ} 0 1 = cc in absurd (omega arith)
never-misread (r ∷ rest) number q n e =
    let next = after_record q r in
    one-read number (disagreement r (answer_of q (request_of r)) next.state) (answer_of q (request_of r)) next
    (replay_from (number + 1) next rest) n (never-misread rest (number + 1) next n) e

same_accepted : (n m : ℕ) (left after : Queue) (R : Replay) → R ≡ accepted n left → R ≡ accepted m after → (n ≡ m) × (left ≡ after)
same_accepted n m left after R e f = (cc, cc)

grounded : (q : Queue) (records : List Record) (R : Replay) → replay_from 0 q records ≡ R → Grounds q records R
grounded q records (misread n) e = never-misread records 0 q n e
grounded q records (accepted n left) e =
    let all = (exactly-if q records).only_then n left e in
    let same = same_accepted n (length records) left (after_all q records) (replay_from 0 q records) e ((exactly-if q records).accepts all) in
    (all, same.0, same.1)
grounded q records (disagrees n field a left) e = (exactly-if q records).first n field a left e

pub each-answer : EachAnswer
each-answer q records R = (grounded q records R, answered q records R)
