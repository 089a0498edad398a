-- Demand 1 for C calls, from the same over states.
use mathlib.Core.Path.{◌≡◌, refl, ap, subst, sym, ◌∙◌}
use mathlib.Core.Bool.{Bool, true, false, cond}
use mathlib.Core.List.{List, []}
use Prim.Native.Nat.{ℕ, ◌+◌, ◌-◌, ◌≤◌}
use native.Mathlib.Omega.{arith}
use lib.ListN.{length, replicate}
use Rattle.laws.proofs.Choice.{either}
use Rattle.calls.specs.Requests.{Request}
use Rattle.refusals.specs.Answer.{Answer, refused}
use Rattle.refusals.specs.Codes.{code_of, packet_of}
use Rattle.ring.specs.Answer.{Reply}
use Rattle.ring.specs.Calls.{Call, Queue, arrive, depart, reply, update}
use Rattle.ring.specs.Fresh.{fresh, settings_of}
use Rattle.ring.specs.Refusals.{settings_refused}
use Rattle.ring.specs.State.{well_formed}
use Rattle.ring.specs.declared.Settings.{Settings}
use Rattle.ring_words.specs.Codes.{words_for}
use Rattle.ring_words.specs.Lent.{Lent, call_to, code_given, code_to, leaves, lent, queue_of, words_left}
use Rattle.ring_words.specs.Words.{state_of, state_words}
use Rattle.ring_guarantees.specs.Refusals.{Applies}
use Rattle.ring_guarantees.proofs.Refusals.{calls-refused, refusals}
use Rattle.ring_c_guarantees.specs.CHanded.{fresh_code}
use Rattle.ring_c_guarantees.specs.CRefusals.{CApplies, CFreshInOrder, CRefusals, CRefusedInOrder}
use Rattle.ring_c_guarantees.proofs.CFirstInFirstOut.{fresh-made}
use Rattle.ring_c_guarantees.proofs.Codes.{code-refused}
use Rattle.ring_c_guarantees.proofs.Decoding.{decoding}

-- ── one call ──

-- the two tables of refusals are one
applies-same : (w : List ℕ) (c : Call) (n : ℕ) → CApplies w c n ≡ Applies (state_of w) c n
applies-same w (arrive handles sizes clock handle size ecn u) n = refl
applies-same w (depart handles sizes clock) n = refl
applies-same w (update clock) n = refl

module _ (w : List ℕ) (c : Call) where
  abbrev answered : Answer
  answered = (reply (state_of w) c).answer

  -- a number of 100 or more is a refusal's
  pub refused-by : 100 ≤ code_given w c → answered ≡ refused (code_given w c - 100)
  refused-by h = code-refused answered (code_given w c - 100) (omega arith)

  to : (n : ℕ) → Applies (state_of w) c n → CApplies w c n
  to n a = subst (λ (t : Type 0). t) (sym (applies-same w c n)) a

  back : (n : ℕ) → CApplies w c n → Applies (state_of w) c n
  back n a = subst (λ (t : Type 0). t) (applies-same w c n) a

  refuses : (m : ℕ) → CApplies w c m → (n : ℕ) × (answered ≡ refused n)
  refuses m a = (calls-refused (state_of w) c).refuses m (back m a)

  lowest-to : (n : ℕ) → code_given w c ≡ 100 + n → CApplies w c n × ((m : ℕ) → CApplies w c m → n ≤ m)
  lowest-to n e =
      let k = (calls-refused (state_of w) c).lowest n (code-refused answered n e) in (to n k.0, λ m a. k.1 m (back m a))

  lowest-back : (n : ℕ) → CApplies w c n × ((m : ℕ) → CApplies w c m → n ≤ m) → code_given w c ≡ 100 + n
  lowest-back n (a, least) =
      let r = refuses n a in
      let k = (calls-refused (state_of w) c).lowest r.0 r.1 in
      let above = least r.0 (to r.0 k.0) in
      let below = k.1 n (back n a) in
      let same : r.0 ≡ n = omega arith in
      ap code_of (r.1 ∙ ap refused same)

  pub words-kept : 100 ≤ code_given w c → words_left w c ≡ w
  words-kept h = ap (λ (a : Answer). words_for a w (state_words w (reply (state_of w) c).state)) (refused-by h)

  in_order : CRefusedInOrder w c
  in_order =
      record {
        lowest = λ n. (lowest-to n, lowest-back n);
        refuses = λ m a. refused-above m a;
        unchanged = words-kept;
      }
    where
      refused-above : (m : ℕ) → CApplies w c m → 100 ≤ code_given w c
      refused-above m a = let e = ap code_of (refuses m a).1 in omega arith

-- ── words and tables ──

same-lent : (q : Lent) (w handles sizes : List ℕ) → w ≡ q.words → handles ≡ q.handles → sizes ≡ q.sizes → lent w handles sizes ≡ q
same-lent q w handles sizes ew eh es = rw (ew, eh, es)

untouched : (q : Lent) (r : Request) → 100 ≤ code_to q r → leaves q r ≡ q
untouched q r h =
    let kept = refusals.untouched (queue_of q) r (code_to q r - 100) (refused-by q.words (call_to q r) h) in
    same-lent q _ _ _ (words-kept q.words (call_to q r) h) (ap (λ (k : Queue). k.handles) kept) (ap (λ (k : Queue). k.sizes) kept)

-- ── fresh ──

fresh-five : (settings : Settings) (clock : ℕ) → length (fresh settings clock).state.verdicts ≡ 5
unfolding fresh
fresh-five settings clock = either (λ (r : Reply). length r.state.verdicts ≡ 5) (settings_refused settings clock) _ _ refl refl

by-test : (t : Bool) (x y : Reply) → code_of (cond t x y).answer ≡ cond t (code_of x.answer) (code_of y.answer)
by-test true x y = refl
by-test false x y = refl

fresh-code : (target buffer slots profile clock : ℕ) →
    fresh_code target buffer slots profile clock ≡ cond (settings_refused (settings_of target buffer slots profile) clock) 101 0
unfolding fresh
fresh-code target buffer slots profile clock = by-test (settings_refused (settings_of target buffer slots profile) clock) _ _

fresh-zeros : (target buffer slots profile clock : ℕ) → fresh_code target buffer slots profile clock ≡ 101 →
    state_words [] (fresh (settings_of target buffer slots profile) clock).state ≡ replicate 23 0
unfolding fresh state_words
fresh-zeros target buffer slots profile clock =
    either (λ (r : Reply). code_of r.answer ≡ 101 → state_words [] r.state ≡ replicate 23 0)
    (settings_refused (settings_of target buffer slots profile) clock) _ _
    (λ e. refl)
    (λ e. absurd (omega arith))

zeros-malformed : well_formed (state_of (replicate 23 0)) ≡ false
unfolding well_formed state_of
zeros-malformed = refl

fresh-in-order : (q : Lent) (target buffer slots profile clock : ℕ) → CFreshInOrder q target buffer slots profile clock
fresh-in-order q target buffer slots profile clock =
    let settings = settings_of target buffer slots profile in
    record {
      code = fresh-code target buffer slots profile clock;
      zeros = fresh-zeros target buffer slots profile clock;
      zeros-malformed = zeros-malformed;
      formed = λ e.
          rw (decoding.decodes [] (fresh settings clock).state (fresh-five settings clock))
          ((refusals.starts settings clock).formed (fresh-made target buffer slots profile clock e));
    }

pub c-refusals : CRefusals
c-refusals =
    record {
      calls = in_order;
      untouched = untouched;
      no-packet = λ w handles sizes clock h. ap packet_of (refused-by w (depart handles sizes clock) h);
      starts = fresh-in-order;
    }
