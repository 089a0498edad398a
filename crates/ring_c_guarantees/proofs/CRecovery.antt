-- Demand 3 and question 4 for C calls, from the same over states.
use mathlib.Core.Path.{◌≡◌, refl, ap, sym, ◌∙◌}
use mathlib.Core.List.Memᴰ
use mathlib.Core.List.{List, [], ◌∷◌, ◌++◌, foldl, foldl-append, Memᴰ}
use mathlib.Core.List.{map}
use Prim.Native.Nat.{ℕ, ◌+◌}
use native.Mathlib.Omega.{arith}
use Rattle.ring.specs.Activity.{begun}
use Rattle.ring.specs.Arrival.{verdict_of}
use Rattle.ring.specs.declared.State.{State}
use Rattle.refusals.specs.Codes.{code_of}
use Rattle.ring_words.specs.Words.{state_of}
use Rattle.ring.specs.Calls.{Call, arrive, depart, reply, update}
use Rattle.ring_guarantees.specs.Calls.{Entry}
use Rattle.ring_guarantees.specs.Recovery.{RecoversAfter, RecoveredAfter, Tally, noted, nothing_yet, queued_by, tally}
use Rattle.ring_guarantees.proofs.Recovery.{recovery}
use Rattle.ring_guarantees.proofs.Replies.{at-reply}
use Rattle.ring_c_guarantees.specs.CCalls.{CEntry}
use Rattle.ring_c_guarantees.specs.CRecovery.{CRecovery, CRecoversAfter, code_noted, codes_tally}
use Rattle.ring_c_guarantees.specs.Fields.{count_in, probability_in}
use Rattle.ring_c_guarantees.proofs.CTraces.{Own, cut_of, entry_of, own-by-limits, own_code, own_in, own-returned, own-ticked}
use Rattle.ring_c_guarantees.proofs.Codes.{admitted-below-2, refused-not, refused-not-below}

-- a call's number tells of it what its answer does
noted-same : (n : ℕ) (t : Tally) (s : State) (c : Call) → code_noted n t c (code_of (reply s c).answer) ≡ noted n t (reply s c).answer
noted-same n t s =
    at-reply s (λ c r. code_noted n t c (code_of r.answer) ≡ noted n t r.answer)
    refused-noted
    (λ handles sizes clock handle size ecn u a. rw (admitted-below-2 (verdict_of (begun s) size ecn u)))
    (λ handles sizes clock a. refl)
    (λ clock a. refl)
  where
    refused-noted : (c : Call) (number : ℕ) → code_noted n t c (100 + number) ≡ t
    refused-noted (arrive handles sizes clock handle size ecn u) number = rw (refused-not-below number 2 (omega arith))
    refused-noted (depart handles sizes clock) number = rw (refused-not number 0 (omega arith))
    refused-noted (update clock) number = rw (refused-not number 0 (omega arith))

own-noted : (n : ℕ) (t : Tally) (e : CEntry) → Own e → code_noted n t e.call e.code ≡ noted n t (entry_of e).answer
own-noted n t e o = ap (code_noted n t e.call) (own_code e o) ∙ noted-same n t (state_of e.given) e.call

tallies-same : (n : ℕ) (t : Tally) (entries : List CEntry) → ((e : CEntry) → Memᴰ e entries → Own e) →
    foldl (λ (t : Tally) (e : CEntry). code_noted n t e.call e.code) t entries
    ≡ foldl (λ (t : Tally) (e : Entry). noted n t e.answer) t (map entry_of entries)
tallies-same n t [] owned = refl
tallies-same n t (e ∷ es) owned =
    rw (own-noted n t e (owned e (Memᴰ.head refl)))
    (tallies-same n (noted n t (entry_of e).answer) es (λ a m. owned a (Memᴰ.tail m)))

count_held : (words : List ℕ) → (state_of words).backlog.count ≡ count_in words
unfolding state_of
count_held w = refl

probability-held : (words : List ℕ) → (state_of words).pie.prob.0 ≡ probability_in words
unfolding state_of
probability-held w = refl

pub c-recovers : (ticks : ℕ) (words : List ℕ) → RecoversAfter ticks (state_of words) → CRecoversAfter ticks words
c-recovers ticks w recovers calls before e later q =
    let n = count_in w in
    let known : RecoveredAfter ticks n (map entry_of before) (entry_of e) (map entry_of later)
    = rw (count_held w) at (recovers calls (map entry_of before) (entry_of e) (map entry_of later) (cut_of w calls before e later q)) in
    let owned = own_in w calls (before ++ e ∷ later) q in
    let here = owned e (Memᴰ.append_right before (Memᴰ.head refl)) in
    let earlier : codes_tally n before ≡ tally n (map entry_of before)
    = tallies-same n nothing_yet before (λ a m. owned a (Memᴰ.append_left (e ∷ later) m)) in
    let upto : codes_tally n (before ++ e ∷ []) ≡ tally n (map entry_of before ++ entry_of e ∷ [])
    = foldl-append _ nothing_yet before (e ∷ [])
    ∙ own-noted n (codes_tally n before) e here
    ∙ ap (λ (t : Tally). noted n t (entry_of e).answer) earlier
    ∙ sym (foldl-append _ nothing_yet (map entry_of before) (entry_of e ∷ [])) in
    record {
      counted = sym (count_held e.given) ∙ known.counted ∙ ap (queued_by n) (sym earlier);
      covered = rw earlier known.covered;
      recovers =
          λ t called accepted enough.
          let k = known.recovers t called (own-ticked e t here called accepted) (rw upto at enough) in (
            sym (probability-held e.returned) ∙ ap (λ (s : State). s.pie.prob.0) (own-returned e here) ∙ k.0,
            λ a m. own-by-limits _ a (owned a (Memᴰ.append_right before (Memᴰ.tail m))) (k.1 (entry_of a) (Memᴰ.map entry_of m)),
          );
    }

pub c-recovery : CRecovery
c-recovery w formed = c-recovers _ w (recovery (state_of w) formed)
