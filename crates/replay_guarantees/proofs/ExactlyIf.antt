-- What the replay of a list of records says of each of them.
use mathlib.Core.Path.{◌≡◌, refl, ap, subst, ◌∙◌}
use mathlib.Core.Bool.{Bool, true, false, cond, not}
use mathlib.Core.List.{List, [], ◌∷◌}
use Prim.Native.Nat.{ℕ, zero, suc, ◌+◌}
use native.Mathlib.Omega.{arith}
use borrow.Author.Tests.{eq-eqb, eqb-false, eqb-true}
use lib.Dec.{eqb}
use lib.ListN.{length}
use Rattle.refusals.specs.Answer.{Answer}
use Rattle.ring.specs.declared.State.{State}
use Rattle.log_codec.specs.declared.Record.{Record}
use Rattle.ring.specs.Calls.{Queue, answer_of}
use Rattle.replay.specs.Agreement.{disagreement, refusal_in, request_of, verdict_in}
use Rattle.replay.specs.Replay.{Replay, accepted, disagrees, replay_from, unless_disagrees}
use Rattle.replay.specs.Replied.{bytes_in, prob_in}
use Rattle.replay_guarantees.specs.ExactlyIf.{AllAgree, ExactlyIf, Field, FirstWrong, after_all, after_record}
use Rattle.replay_guarantees.specs.ExactlyIf.{bytes, none, probability, refused, verdict}

-- ── one record ──

module _ (r : Record) (a : Answer) (s : State) where
  -- the field, by what the four tests say
  by_tests : (x y z w : Bool) → eqb (refusal_in a) 0 ≡ x → eqb r.verdict (verdict_in a) ≡ y → eqb r.prob (prob_in s) ≡ z →
      eqb r.bytes (bytes_in s) ≡ w → Field r a s (cond (not x) 1 (cond (not y) 1 (cond (not z) 2 (cond (not w) 3 0))))
  by_tests false y z w e f g h = refused (eqb-false (refusal_in a) 0 e)
  by_tests true false z w e f g h = verdict (eqb-true (refusal_in a) 0 e) (eqb-false r.verdict (verdict_in a) f)
  by_tests true true false w e f g h =
      probability (eqb-true (refusal_in a) 0 e) (eqb-true r.verdict (verdict_in a) f) (eqb-false r.prob (prob_in s) g)
  by_tests true true true false e f g h =
      bytes (eqb-true (refusal_in a) 0 e) (eqb-true r.verdict (verdict_in a) f) (eqb-true r.prob (prob_in s) g)
      (eqb-false r.bytes (bytes_in s) h)
  by_tests true true true true e f g h =
      none (eqb-true (refusal_in a) 0 e) (eqb-true r.verdict (verdict_in a) f) (eqb-true r.prob (prob_in s) g)
      (eqb-true r.bytes (bytes_in s) h)

  field_of : Field r a s (disagreement r a s)
  unfolding disagreement
  field_of =
      by_tests (eqb (refusal_in a) 0) (eqb r.verdict (verdict_in a)) (eqb r.prob (prob_in s)) (eqb r.bytes (bytes_in s)) refl refl refl refl

  -- where each agrees, none is named
  unnamed : (n : ℕ) → n ≡ 0 → Field r a s n → disagreement r a s ≡ 0
  unfolding disagreement
  unnamed n z (none e f g h) =
      rw (eq-eqb (refusal_in a) 0 e, eq-eqb r.verdict (verdict_in a) f, eq-eqb r.prob (prob_in s) g, eq-eqb r.bytes (bytes_in s) h)
  unnamed n z (refused e) = absurd (omega (arith, z))
  unnamed n z (verdict e f) = absurd (omega (arith, z))
  unnamed n z (probability e f g) = absurd (omega (arith, z))
  unnamed n z (bytes e f g h) = absurd (omega (arith, z))

-- ── all records ──

-- accepted with all in agreement, or the first that is wrong
data Ends (number : ℕ) (q : Queue) (records : List Record) : Replay → Type 0 where
  agree : AllAgree q records → Ends number q records (accepted (number + length records) (after_all q records))
  stop : (n field : ℕ) (a : Answer) (left : Queue) → FirstWrong q records n field a left →
      Ends number q records (disagrees (number + n) field a left)

module _ (number : ℕ) (q : Queue) (r : Record) (rest : List Record) where
  abbrev a : Answer
  a = answer_of q (request_of r)

  abbrev next : Queue
  next = after_record q r

  -- one record that agrees, before those that follow
  after_one : Field r a next.state 0 → (R : Replay) → Ends (number + 1) next rest R → Ends number q (r ∷ rest) R
  after_one f R (agree all) =
      let e : number + length (r ∷ rest) ≡ number + 1 + length rest = omega arith in
      subst (λ (m : ℕ). Ends number q (r ∷ rest) (accepted m (after_all next rest))) e (agree (f, all))
  after_one f R (stop n field x left w) =
      let e : number + suc n ≡ number + 1 + n = omega arith in
      subst (λ (m : ℕ). Ends number q (r ∷ rest) (disagrees m field x left)) e
      (stop (suc n) field x left (record {
        before = r ∷ w.before;
        it = w.it;
        rest = w.rest;
        split = ap (λ (l : List Record). r ∷ l) w.split;
        counted = ap suc w.counted;
        agree = (f, w.agree);
        wrong = w.wrong;
        field_is = w.field_is;
        ruled = w.ruled;
        leaves = w.leaves;
      }))

  at_one : (field : ℕ) → Field r a next.state field → Ends (number + 1) next rest (replay_from (number + 1) next rest) →
      Ends number q (r ∷ rest) (unless_disagrees number field a next (replay_from (number + 1) next rest))
  at_one zero f others = after_one f (replay_from (number + 1) next rest) others
  at_one (suc n) f others =
      let e : number + 0 ≡ number = omega arith in
      subst (λ (m : ℕ). Ends number q (r ∷ rest) (disagrees m (suc n) a next)) e
      (stop 0 (suc n) a next (record {
        before = [];
        it = r;
        rest = rest;
        split = refl;
        counted = refl;
        agree = tt;
        wrong = λ z. omega (arith, z);
        field_is = f;
        ruled = refl;
        leaves = refl;
      }))

ends : (records : List Record) (number : ℕ) (q : Queue) → Ends number q records (replay_from number q records)
unfolding replay_from
ends [] number q =
    let e : number + 0 ≡ number = omega arith in subst (λ (m : ℕ). Ends number q [] (accepted m q)) e (agree tt)
ends (r ∷ rest) number q =
    let next = after_record q r in
    at_one number q r rest (disagreement r (answer_of q (request_of r)) next.state) (field_of r (answer_of q (request_of r)) next.state)
    (ends rest (number + 1) next)

-- ── the claim ──

accepts-from : (records : List Record) (number : ℕ) (q : Queue) → AllAgree q records →
    replay_from number q records ≡ accepted (number + length records) (after_all q records)
unfolding replay_from
accepts-from [] number q all = let e : number ≡ number + 0 = omega arith in ap (λ (m : ℕ). accepted m q) e
accepts-from (r ∷ rest) number q all =
    let next = after_record q r in
    let e : number + 1 + length rest ≡ number + length (r ∷ rest) = omega arith in
    rw (unnamed r (answer_of q (request_of r)) next.state 0 refl all.0)
    (accepts-from rest (number + 1) next all.1 ∙ ap (λ (m : ℕ). accepted m (after_all next rest)) e)

only-from : (number : ℕ) (q : Queue) (records : List Record) (R : Replay) → Ends number q records R → (n : ℕ) (left : Queue) →
    R ≡ accepted n left → AllAgree q records
only-from number q records R (agree all) n left e = all
only-from number q records R (stop m field a p w) n left e = let z : ◌≡◌ {A = ℕ} 0 1 = cc in absurd (omega arith)

first-from : (q : Queue) (records : List Record) (R : Replay) → Ends 0 q records R → (n field : ℕ) (a : Answer) (left : Queue) →
    R ≡ disagrees n field a left → FirstWrong q records n field a left
first-from q records R (agree all) n field a left e = let z : ◌≡◌ {A = ℕ} 0 1 = cc in absurd (omega arith)
first-from q records R (stop m f x p w) n field a left e =
    let en : 0 + m ≡ n = cc in
    let m≡n : m ≡ n = omega arith in
    let ef : f ≡ field = cc in
    let ea : x ≡ a = cc in
    let el : p ≡ left = cc in
    rw (← m≡n, ← ef, ← ea, ← el) w

pub exactly-if : ExactlyIf
exactly-if q records =
    let z : 0 + length records ≡ length records = omega arith in
    record {
      accepts = λ all. accepts-from records 0 q all ∙ ap (λ (m : ℕ). accepted m (after_all q records)) z;
      only_then = only-from 0 q records (replay_from 0 q records) (ends records 0 q);
      first = first-from q records (replay_from 0 q records) (ends records 0 q);
    }
