-- How far early verdicts stand apart, over C calls: what an entry adds by its words and its number is what it adds by its state and its
-- answer.
use mathlib.Core.Path.{◌≡◌, refl, ap, subst, sym, ◌∙◌}
use mathlib.Core.Bool.{Bool, true, false, not}
use mathlib.Core.List.Memᴰ
use mathlib.Core.List.{List, [], ◌∷◌, ◌++◌, Memᴰ, map}
use mathlib.Core.List.{map-append}
use mathlib.Core.Logic.{⊎_elim}
use Prim.Native.Nat.{ℕ, ◌+◌}
use native.Mathlib.Omega.{arith}
use lib.Dec.{eqb}
use Rattle.pie.specs.Verdicts.{is_early, place_of}
use Rattle.pie.specs.declared.Verdict.{Verdict}
use Rattle.pie.specs.declared.Verdict.TheVariants.{Enqueued, Marked, DroppedBytes, DroppedSlots, DroppedEarly}
use Rattle.refusals.specs.Answer.{Answer, departed, made, refused, ticked, verdict}
use Rattle.refusals.specs.Codes.{code_of}
use Rattle.ring.specs.Activity.{begun}
use Rattle.ring.specs.Arrival.{verdict_of}
use Rattle.ring.specs.Calls.{Call, arrive, depart, reply, update}
use Rattle.ring.specs.declared.State.{State}
use Rattle.ring_words.specs.Words.{state_of}
use Rattle.ring_guarantees.specs.Calls.{Entry, trace}
use Rattle.ring_guarantees.specs.EarlyAtMostApart.{activates}
use Rattle.ring_guarantees.specs.Spacing.{added, added_at, added_by, is_early_answer}
use Rattle.ring_guarantees.proofs.Replies.{at-reply}
use Rattle.ring_guarantees.proofs.Spacing.{early-at-least-apart, early-at-most-apart}
use Rattle.ring_c_guarantees.specs.CCalls.{CEntry}
use Rattle.ring_c_guarantees.specs.CEarlyAtLeastApart.{CEarlyAtLeastApart}
use Rattle.ring_c_guarantees.specs.CEarlyAtMostApart.{CEarlyAtMostApart, turns_active_at}
use Rattle.ring_c_guarantees.specs.CSpacing.{added_in, added_with, is_early_code}
use Rattle.ring_c_guarantees.specs.MoreFields.{active_in}
use Rattle.ring_c_guarantees.proofs.Codes.{refused-not}
use Rattle.ring_c_guarantees.proofs.CAnswered.{trace-of}
use Rattle.ring_c_guarantees.proofs.CTraces.{Own, cut_of, entry_of, own_code, own_in, own-returned}

-- ── early ──

early-place : (v : Verdict) → is_early_code (place_of v) ≡ is_early v
early-place Enqueued = refl
early-place Marked = refl
early-place DroppedBytes = refl
early-place DroppedSlots = refl
early-place DroppedEarly = refl

early-code : (a : Answer) → is_early_code (code_of a) ≡ is_early_answer a
early-code (refused number) = rw (refused-not number 1 (omega arith), refused-not number 4 (omega arith))
early-code made = refl
early-code (verdict v) = early-place v
early-code (departed handle size) = refl
early-code ticked = refl

own-early : (e : CEntry) → Own e → is_early_code e.code ≡ is_early_answer (entry_of e).answer
own-early e o = ap is_early_code (own_code e o) ∙ early-code (entry_of e).answer

-- ── what is added ──

module _ (w : List ℕ) where
  added-place : (handles sizes : List ℕ) (clock handle size : ℕ) (ecn : Bool) (u : ℕ) (v : Verdict) →
      added_with w (arrive handles sizes clock handle size ecn u) (place_of v) ≡ added_at (state_of w) v
  unfolding state_of
  added-place handles sizes clock handle size ecn u Enqueued = refl
  added-place handles sizes clock handle size ecn u Marked = refl
  added-place handles sizes clock handle size ecn u DroppedBytes = refl
  added-place handles sizes clock handle size ecn u DroppedSlots = refl
  added-place handles sizes clock handle size ecn u DroppedEarly = refl

  refused-adds : (c : Call) (number : ℕ) → added_with w c (100 + number) ≡ 0
  refused-adds (arrive handles sizes clock handle size ecn u) number =
      rw (refused-not number 1 (omega arith), refused-not number 4 (omega arith), refused-not number 0 (omega arith))
  refused-adds (depart handles sizes clock) number = refl
  refused-adds (update clock) number = refl

  added-code : (c : Call) → added_with w c (code_of (reply (state_of w) c).answer) ≡ added_by (state_of w) (reply (state_of w) c).answer
  added-code =
      at-reply (state_of w) (λ c r. added_with w c (code_of r.answer) ≡ added_by (state_of w) r.answer)
      refused-adds
      (λ handles sizes clock handle size ecn u a.
      added-place handles sizes clock handle size ecn u (verdict_of (begun (state_of w)) size ecn u))
      (λ handles sizes clock a. refl)
      (λ clock a. refl)

own-added : (e : CEntry) → Own e → added_with e.given e.call e.code ≡ added_by (state_of e.given) (entry_of e).answer
own-added e o = ap (added_with e.given e.call) (own_code e o) ∙ added-code e.given e.call

added-same : (entries : List CEntry) → ((e : CEntry) → Memᴰ e entries → Own e) → added_in entries ≡ added (map entry_of entries)
added-same [] owned = refl
added-same (e ∷ es) owned =
    omega (arith, own-added e (owned e (Memᴰ.head refl)), added-same es (λ a m. owned a (Memᴰ.tail m)))

-- ── at least ──

pub c-early-at-least-apart : CEarlyAtLeastApart
c-early-at-least-apart w calls before first between next later q ef en =
    let owned = own_in w calls _ q in
    let here = owned first (Memᴰ.append_right before (Memᴰ.head refl)) in
    let past : (a : CEntry) → Memᴰ a (between ++ next ∷ later) → Own a
    = λ a m. owned a (Memᴰ.append_right before (Memᴰ.tail m)) in
    let there = past next (Memᴰ.append_right between (Memᴰ.head refl)) in
    let cut : trace (state_of w) calls ≡ map entry_of before ++ entry_of first ∷ (map entry_of between ++ entry_of next ∷ map entry_of later)
    = rw (← map-append entry_of between (next ∷ later)) (cut_of w calls before first (between ++ next ∷ later) q) in
    let known = early-at-least-apart (state_of w) calls (map entry_of before) (entry_of first) (map entry_of between) (entry_of next)
    (map entry_of later) cut (sym (own-early first here) ∙ ef) (sym (own-early next there) ∙ en) in
    let same : added_in (between ++ next ∷ []) ≡ added (map entry_of between ++ entry_of next ∷ [])
    = added-same (between ++ next ∷ []) (λ a m. past a (inner a m)) ∙ ap added (map-append entry_of between (next ∷ [])) in
    omega arith
  where
    inner : (a : CEntry) → Memᴰ a (between ++ next ∷ []) → Memᴰ a (between ++ next ∷ later)
    inner a m =
        ⊎_elim (λ l. Memᴰ.append_left (next ∷ later) l)
        (λ r.
        ⊎_elim (λ same. Memᴰ.append_right between (Memᴰ.head same)) (λ n. absurd (Memᴰ.not-nil n)) (Memᴰ.cases_cons r))
        (Memᴰ.append_cases between m)

-- ── at most ──

twice : (b : Bool) → not (not b) ≡ b
twice true = refl
twice false = refl

active-held : (w : List ℕ) → (state_of w).active ≡ not (eqb (active_in w) 0)
unfolding state_of
active-held w = refl

own-activates : (e : CEntry) → Own e → turns_active_at e ≡ activates (entry_of e)
own-activates e o =
    let after = sym (active-held e.returned) ∙ ap (λ (s : State). s.active) (own-returned e o) in
    let found = sym (twice (eqb (active_in e.given) 0)) ∙ ap not (sym (active-held e.given)) in
    rw (found, after)

pub c-early-at-most-apart : CEarlyAtMostApart
c-early-at-most-apart w calls before between later formed q none =
    let owned : (a : CEntry) → Memᴰ a between → Own a
    = λ a m. own_in w calls _ q a (Memᴰ.append_right before (Memᴰ.append_left later m)) in
    let cut : trace (state_of w) calls ≡ map entry_of before ++ (map entry_of between ++ map entry_of later)
    = sym (trace-of w calls) ∙ ap (map entry_of) q ∙ map-append entry_of before (between ++ later)
    ∙ ap (λ (l : List Entry). map entry_of before ++ l) (map-append entry_of between later) in
    rw (added-same between owned)
    (early-at-most-apart (state_of w) calls (map entry_of before) (map entry_of between) (map entry_of later) formed cut
    (λ b m. let k = Memᴰ.of_map entry_of between m in of_entry b k.0 (owned k.0 k.1) (none k.0 k.1) k.2))
  where
    of_entry : (b : Entry) (a : CEntry) → Own a → (is_early_code a.code ≡ false) × (turns_active_at a ≡ false) → entry_of a ≡ b →
        (is_early_answer b.answer ≡ false) × (activates b ≡ false)
    of_entry b a o (early, turned) same =
        subst (λ (b : Entry). (is_early_answer b.answer ≡ false) × (activates b ≡ false)) same
        (sym (own-early a o) ∙ early, sym (own-activates a o) ∙ turned)
