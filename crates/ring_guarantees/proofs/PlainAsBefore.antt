-- The plain profile answers as before: of a plain record each rule gives what the rule before gave, and so does each call.
use mathlib.Core.Path.{◌≡◌, refl, sym, ap, ◌∙◌}
use mathlib.Core.Bool.{Bool, true, false, ◌&&◌, ◌||◌, and-true, true≢false}
use mathlib.Core.List.{List, [], ◌∷◌, ◌++◌, foldl, map}
use Prim.Native.Nat.{ℕ, zero, suc}
use lib.Dec.{eqb}
use Rattle.laws.specs.Tests.{all}
use Rattle.pie.specs.Update.{capped, next_prob, updated}
use Rattle.refusals.specs.Rows.{first_refusal}
use Rattle.calls.specs.Traces.{trace}
use Rattle.ring.specs.Activity.{begun}
use Rattle.ring.specs.Answer.{Reply}
use Rattle.ring.specs.Arrival.{arrived_state, verdict_of}
use Rattle.ring.specs.Departure.{departed_state}
use Rattle.ring.specs.Fresh.{fresh}
use Rattle.ring.specs.State.{settings_conditions, well_formed}
use Rattle.ring.specs.Tick.{ticked_state}
use Rattle.ring.specs.declared.State.{State}
use Rattle.ring.proofs.Facts.{facts}
use Rattle.ring_guarantees.specs.BeforeProfiles as before
use Rattle.ring.specs.Calls.{Call, arrive, depart, reply, update}
use Rattle.ring_guarantees.specs.PlainAsBefore.{PlainAsBefore, PlainFreshAsBefore, before_profiles, given_with, now, plain, plain_entry}
use Rattle.ring_guarantees.specs.PlainAsBefore.{plain_settings, without}
use Rattle.ring_guarantees.specs.Refusals.{rows_of}
use Rattle.ring_guarantees.proofs.Replies.{acceptance, by_number, number_given, refusal_of}

-- ── the refusals ──

-- a test that passes may be left out
pass : (a : Bool) (tests others : List Bool) → foldl ◌&&◌ a (tests ++ true ∷ others) ≡ foldl ◌&&◌ a (tests ++ others)
pass a [] others = ap (λ (b : Bool). foldl ◌&&◌ b others) (and-true a)
pass a (t ∷ tests) others = pass (a && t) tests others

settings-same : (s : before.Settings) → all (settings_conditions (plain_settings s)) ≡ all (before.settings_conditions s)
settings-same s = pass true (before.settings_conditions s) []

well-formed-same : (s : before.State) → well_formed (plain s) ≡ before.well_formed s
unfolding well_formed before.well_formed
well-formed-same s =
    pass true (before.settings_conditions s.settings) (before.state_conditions s ++ true ∷ [])
    ∙ pass true (before.settings_conditions s.settings ++ before.state_conditions s) []

rows_same : (s : before.State) (c : Call) → rows_of (plain s) c ≡ before.rows_of s c
rows_same s (arrive handles sizes clock handle size ecn u) = rw (well-formed-same s)
rows_same s (depart handles sizes clock) = rw (well-formed-same s)
rows_same s (update clock) = rw (well-formed-same s)

-- ── one call ──

-- a reply to a plain record gives what the rules before gave
abbrev AsBefore : before.State → Call → before.Outcome → Reply → Type 0
AsBefore s c o r =
    (given_with (plain s) c r.answer ≡ record { answer = o.answer; handles = o.handles; sizes = o.sizes })
    × (r.state ≡ plain o.state)

refused-same : (s : before.State) (c : Call) (n : ℕ) → AsBefore s c (before.unchanged s n c) (refusal_of (plain s) n)
refused-same s (arrive handles sizes clock handle size ecn u) n = (refl, refl)
refused-same s (depart handles sizes clock) n = (refl, refl)
refused-same s (update clock) n = (refl, refl)

accepted-same : (s : before.State) (c : Call) → AsBefore s c (before.accepted s c) (acceptance (plain s) c)
unfolding arrived_state begun capped departed_state next_prob ticked_state updated verdict_of
accepted-same s (arrive handles sizes clock handle size ecn u) = (refl, refl)
accepted-same s (depart handles sizes clock) = (refl, refl)
accepted-same s (update clock) = (refl, refl)

reply-same : (s : before.State) (c : Call) → AsBefore s c (before.outcome s c) (reply (plain s) c)
reply-same s c =
    by_number (AsBefore s c (before.outcome s c)) (plain s) c
    (λ n some given. go n some (sym number ∙ given))
    (λ none. let e : first_refusal (before.rows_of s c) ≡ 0 = sym number ∙ none in rw e (accepted-same s c))
  where
    number : number_given (plain s) c ≡ first_refusal (before.rows_of s c)
    number = ap first_refusal (rows_same s c)

    go : (n : ℕ) → (n ≡ 0 → ⊥) → first_refusal (before.rows_of s c) ≡ n → AsBefore s c (before.outcome s c) (refusal_of (plain s) n)
    go zero some e = absurd (some refl)
    go (suc n) some e = rw e (refused-same s c (suc n))

-- ── lists of calls ──

traces-same : (s : before.State) (calls : List Call) → trace now (plain s) calls ≡ map plain_entry (trace before_profiles s calls)
traces-same s [] = refl
traces-same s (c ∷ calls) =
    let same = reply-same s c in
    rw (same.0, same.1, traces-same (before.outcome s c).state calls)

-- a plain well-formed queue is active
plain-active : (active : Bool) (profile : ℕ) (low : Bool) → active || (eqb profile 1 && low) ≡ true → profile ≡ 0 → active ≡ true
plain-active true profile low e z = refl
plain-active false profile low e z = absurd (true≢false (sym e ∙ rw z))

-- the record with another profile and activity
abbrev with : State → (profile : ℕ) (active : Bool) → State
with s profile active =
    record {
      settings = record { target = s.settings.target; buffer = s.settings.buffer; slots = s.settings.slots; profile = profile };
      clock = s.clock;
      last = s.last;
      pie = s.pie;
      backlog = s.backlog;
      first = s.first;
      verdicts = s.verdicts;
      active = active;
    }

plain-without : (s : State) → well_formed s ≡ true → s.settings.profile ≡ 0 → s ≡ plain (without s)
plain-without s w z =
    let a = plain-active s.active s.settings.profile (eqb s.pie.prob.0 0) (facts s w).inactive-calm z in
    ap (λ (p : ℕ). with s p s.active) z ∙ ap (with s 0) a

pub plain-as-before : PlainAsBefore
plain-as-before start calls w z = ap (λ (s : State). trace now s calls) (plain-without start w z) ∙ traces-same (without start) calls

pub plain-fresh-as-before : PlainFreshAsBefore
unfolding fresh
plain-fresh-as-before settings clock = rw (settings-same settings)
