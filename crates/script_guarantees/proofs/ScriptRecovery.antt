-- Demand 3 and question 4 for scripts: after an accepted `c` by the theorem over traces, and after a refused one no call is accepted.
use mathlib.Core.Path.{◌≡◌, refl, sym, ap, ◌∙◌}
use mathlib.Core.List.{List, ◌∷◌, ◌++◌}
use Prim.Native.Nat.{ℕ}
use native.Mathlib.Omega.{arith}
use Rattle.ring.specs.Answer.{Reply}
use Rattle.refusals.specs.Answer.{made, refused, ticked}
use Rattle.ring.specs.Fresh.{fresh, settings_of, zero_state}
use Rattle.ring.specs.declared.State.{State}
use Rattle.ring.proofs.Kept.{fresh-well-formed, made-accepted}
use Rattle.ring.specs.Calls.{Call, reply}
use Rattle.ring_guarantees.specs.Calls.{Entry, entry, ring_calls}
use Rattle.calls.specs.Requests.{Request}
use Rattle.ring_guarantees.specs.Recovery.{RecoveredAfter, Tally, noted, nothing_yet, tally}
use Rattle.ring_guarantees.proofs.Recovery.{recovery}
use Rattle.calls.proofs.Traces.{cut}
use Rattle.script_guarantees.specs.Asked.{asked}
use Rattle.script_guarantees.specs.Entries.{calls_of, opened, trace_of}
use Rattle.script_guarantees.specs.ScriptRecovery.{ScriptRecovery}
use Rattle.script_guarantees.proofs.Idle.{idle-reply}
use Rattle.script_guarantees.proofs.Sound.{by_entries, by-start}

empty-start : (target buffer slots : ℕ) → (fresh (settings_of target buffer slots 0) 0).answer ≡ made →
    (opened target buffer slots).state.backlog.count ≡ 0
unfolding fresh
empty-start target buffer slots e = rw (made-accepted (settings_of target buffer slots 0) 0 e)

-- nothing happened
record Still (t : Tally) (s : State) : Type 0 where
  state : s ≡ zero_state
  none : t ≡ nothing_yet

still_kept : (t : Tally) (s : State) → Still t s → (c : Call) → Still (noted 0 t (entry s c).answer) (reply s c).state
still_kept t s k c =
    let e = idle-reply c in
    rw (k.state, e, k.none) (record { state = refl; none = refl })

not-ticked : (e : Entry) → entry e.given e.call ≡ e → e.given ≡ zero_state → e.answer ≡ ticked → ⊥
not-ticked e r g a =
    let two : e.answer ≡ refused 2
    = ap (λ (x : Entry). x.answer) (sym r)
    ∙ (ap (λ (s : State). (reply s e.call).answer) g ∙ ap (λ (x : Reply). x.answer) (idle-reply e.call)) in
    let z : ◌≡◌ {A = ℕ} 0 1 = cc in
    omega arith

pub script-recovery : ScriptRecovery
script-recovery input before e later = by_entries (λ es. es ≡ before ++ e ∷ later → RecoveredAfter 1000 0 before e later) go (asked input)
  where
    go : (target buffer slots : ℕ) (requests : List Request) → trace_of (opened target buffer slots) requests ≡ before ++ e ∷ later →
        RecoveredAfter 1000 0 before e later
    go target buffer slots requests q =
        let o = opened target buffer slots in
        let calls = calls_of o requests in
        by-start (RecoveredAfter 1000 0 before e later) target buffer slots
        (λ m. rw (empty-start target buffer slots m) at (recovery o.state (fresh-well-formed _ 0 m) calls before e later q))
        (λ z.
        let start : Still nothing_yet o.state = record { state = z; none = refl } in
        let k = cut ring_calls (λ t a. noted 0 t a.answer) Still still_kept nothing_yet o.state calls before e later start q in
        let still : tally 0 before ≡ nothing_yet = k.holds.none in
        record {
          counted = rw (k.holds.state, still);
          covered = rw still (omega arith);
          recovers = λ t ec ea enough. absurd (not-ticked e k.replied k.holds.state ea);
        })
