-- An entry of a trace over words, as the entry of the trace over states that it is.
use mathlib.Core.Path.{◌≡◌, refl, ap, sym, ◌∙◌}
use mathlib.Core.Bool.{Bool, true, false, cond}
use mathlib.Core.List.Memᴰ
use mathlib.Core.List.{List, [], ◌∷◌, ◌++◌, Memᴰ, map, map-append, map-map}
use mathlib.Core.Logic.{⊎_elim}
use Prim.Native.Nat.{ℕ, ◌+◌, ◌<◌}
use native.Mathlib.Omega.{arith}
use lib.Dec.{eqb, ltb}
use Rattle.pie.specs.Verdicts.{place_of}
use Rattle.pie.specs.declared.Verdict.{Verdict}
use Rattle.pie.specs.declared.Verdict.TheVariants.{Enqueued, DroppedBytes, DroppedSlots}
use Rattle.refusals.specs.Answer.{ticked, verdict}
use Rattle.ring.specs.Activity.{begun}
use Rattle.ring.specs.Arrival.{verdict_of}
use Rattle.ring.specs.declared.State.{State}
use Rattle.refusals.specs.Codes.{code_of}
use Rattle.ring_words.specs.Words.{state_of}
use Rattle.ring_guarantees.specs.Calls.{ByLimitsBefore, Entry, entry, limits_verdict, trace}
use Rattle.ring.specs.Calls.{Call, arrive, reply, update}
use Rattle.ring_guarantees.proofs.Replies.{at-one-reply}
use Rattle.ring_c_guarantees.specs.CCalls.{CEntry, CodeByLimitsBefore, c_entry, c_trace, limits_code}
use Rattle.ring_words.specs.Lent.{words_left}
use Rattle.ring_c_guarantees.specs.TracesJoined.{TraceLine, line_of_states, line_of_words}
use Rattle.ring_c_guarantees.specs.Fields.{buffer_in, bytes_in, count_in, slots_in}
use Rattle.ring_c_guarantees.proofs.CReplies.{words_left_lem}
use Rattle.ring_c_guarantees.proofs.TracesJoined.{traces-joined}

abbrev pub entry_of : CEntry → Entry
entry_of e = entry (state_of e.given) e.call

-- the entry that a line of both traces tells of
abbrev entry_at : TraceLine → Entry
entry_at l = entry l.given l.call

lines-back : (s : State) (calls : List Call) → map entry_at (map line_of_states (trace s calls)) ≡ trace s calls
lines-back s [] = refl
lines-back s (c ∷ cs) = ap (λ (l : List Entry). entry s c ∷ l) (lines-back (reply s c).state cs)

trace-of : (words : List ℕ) (calls : List Call) → map entry_of (c_trace words calls) ≡ trace (state_of words) calls
trace-of w calls =
    sym (map-map entry_at line_of_words (c_trace w calls)) ∙ ap (map entry_at) (traces-joined w calls) ∙ lines-back (state_of w) calls

-- the trace over states is cut where the trace over words is
pub cut_of : (words : List ℕ) (calls : List Call) (before : List CEntry) (e : CEntry) (later : List CEntry) →
    c_trace words calls ≡ before ++ e ∷ later → trace (state_of words) calls ≡ map entry_of before ++ entry_of e ∷ map entry_of later
cut_of w calls before e later q = sym (trace-of w calls) ∙ ap (map entry_of) q ∙ map-append entry_of before (e ∷ later)

-- ── each entry is its call's ──

abbrev pub Own : CEntry → Type 0
Own e = e ≡ c_entry e.given e.call

own : (words : List ℕ) (calls : List Call) (e : CEntry) → Memᴰ e (c_trace words calls) → Own e
own w [] e m = absurd (Memᴰ.not-nil m)
own w (c ∷ cs) e m = ⊎_elim (λ q. rw q) (λ n. own (words_left w c) cs e n) (Memᴰ.cases_cons m)

pub own_in : (words : List ℕ) (calls : List Call) (entries : List CEntry) → c_trace words calls ≡ entries →
    (e : CEntry) → Memᴰ e entries → Own e
own_in w calls entries q e m = own w calls e (rw (← q) at m)

-- ── what a number tells ──

pub own_code : (e : CEntry) → Own e → e.code ≡ code_of (entry_of e).answer
own_code e o = ap (λ (a : CEntry). a.code) o

pub own-returned : (e : CEntry) → Own e → state_of e.returned ≡ (entry_of e).returned
own-returned e o = ap (λ (a : CEntry). state_of a.returned) o ∙ words_left_lem e.given e.call

tick-answered : (s : State) (t : ℕ) → code_of (reply s (update t)).answer ≡ 0 → (reply s (update t)).answer ≡ ticked
tick-answered s t =
    at-one-reply (λ r. code_of r.answer ≡ 0 → r.answer ≡ ticked) s (update t)
    (λ number e. absurd (omega arith))
    (λ a e. refl)

-- a tick that is answered 0
pub own-ticked : (e : CEntry) (t : ℕ) → Own e → e.call ≡ update t → e.code ≡ 0 → (entry_of e).answer ≡ ticked
own-ticked e t o called accepted =
    let told = sym (own_code e o) ∙ accepted in rw called (tick-answered (state_of e.given) t (rw called at told))

module _ (s : State) (handles sizes : List ℕ) (clock handle size : ℕ) (ecn : Bool) (u : ℕ) where
  abbrev arrived : Call
  arrived = arrive handles sizes clock handle size ecn u

  arrival-answered : code_of (reply s arrived).answer < 100 → (v : Verdict) × ((reply s arrived).answer ≡ verdict v)
  arrival-answered =
      at-one-reply (λ r. code_of r.answer < 100 → (v : Verdict) × (r.answer ≡ verdict v)) s arrived
      (λ number h. absurd (omega arith))
      (λ a h. (verdict_of (begun s) size ecn u, refl))

limits-place : (words : List ℕ) (size : ℕ) → place_of (limits_verdict (state_of words) size) ≡ limits_code words size
unfolding state_of
limits-place w size = go (ltb (buffer_in w) (bytes_in w + size)) (eqb (count_in w) (slots_in w))
  where
    go : (full none : Bool) → place_of (cond full DroppedBytes (cond none DroppedSlots Enqueued)) ≡ cond full 2 (cond none 3 0)
    go true none = refl
    go false true = refl
    go false false = refl

pub own-by-limits : (end : ℕ) (e : CEntry) → Own e → ByLimitsBefore end (entry_of e) → CodeByLimitsBefore end e
own-by-limits end e o limited handles sizes clock handle size ecn u called below early =
    let s = state_of e.given in
    let told = own_code e o in
    let v = arrival-answered s handles sizes clock handle size ecn u (rw (told, called) at below) in
    let answered : (entry_of e).answer ≡ verdict v.0 = ap (λ (c : Call). (reply s c).answer) called ∙ v.1 in
    let decided : v.0 ≡ limits_verdict s size = limited handles sizes clock handle size ecn u v.0 called answered early in
    told ∙ ap code_of answered ∙ ap place_of decided ∙ limits-place e.given size
