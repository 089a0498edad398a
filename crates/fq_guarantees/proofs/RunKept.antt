-- What every call keeps of a run: the one induction over a list of calls.
use mathlib.Core.Path.{◌≡◌, refl, ap, subst, sym, ◌∙◌}
use mathlib.Core.Bool.{Bool, cond}
use mathlib.Core.List.{List, [], ◌∷◌, ◌++◌, append_assoc, foldl}
use Prim.Native.Nat.{ℕ, ◌+◌}
use native.Mathlib.Omega.{arith}
use lib.ListN.{get_or, length, length-append}
use Rattle.calls.specs.Conservation.{times_given}
use Rattle.calls.specs.Packets.{bytes_of}
use Rattle.calls.proofs.Packets.{bytes-append}
use Rattle.pie.specs.Verdicts.{place_of}
use Rattle.pie.specs.declared.Verdict.{Verdict}
use Rattle.fq_state.specs.Fresh.{fresh_refusal}
use Rattle.fq_state.specs.declared.Settings.{Settings}
use Rattle.fq_guarantees.specs.Conservation.{is_verdict}
use Rattle.fq_guarantees.specs.FirstInFirstOut.{InOrder}
use Rattle.fq_guarantees.specs.Handed.{Flows, Request, Run, admitted_by, answer_of, departed_by, of_all, of_flow, queued, run, step}
use Rattle.fq_guarantees.proofs.Counted.{counted-at}
use Rattle.fq_guarantees.proofs.OfFlow.{of-all-append, of-flow-append}
use Rattle.fq_guarantees.proofs.Starting.{begun-empty, begun-is, begun-whole, no-counts}
use Rattle.fq_guarantees.proofs.Steps.{moves, whole-kept}
use Rattle.fq_guarantees.proofs.Whole.{Whole}

pub record Kept (r : Run) : Type 0 where
  pub whole : Whole r.flows
  pub order : (flow : ℕ) → InOrder flow r
  pub all-bytes : r.flows.state.common.backlog.bytes.0 + bytes_of (of_all r.departed) ≡ bytes_of (of_all r.admitted)
  pub all-count : r.flows.state.common.backlog.count + length r.departed ≡ length r.admitted
  pub counted : (v : Verdict) → get_or r.flows.state.common.verdicts (place_of v) 0 ≡ times_given (is_verdict v) r.answers

times-last : {A : Type 0} (is : A → Bool) (answers : List A) (a : A) →
    times_given is (answers ++ a ∷ []) ≡ times_given is answers + cond (is a) 1 0
times-last is [] a = omega arith
times-last is (b ∷ answers) a = omega (arith, times-last is answers a)

-- those in order stay so where one call moves in order
in_order : {A : Type 0} (admitted departed held into out held' : List A) → admitted ≡ departed ++ held → held ++ into ≡ out ++ held' →
    admitted ++ into ≡ (departed ++ out) ++ held'
in_order admitted departed held into out held' before moved = simp (before, append_assoc, moved)

step_kept : (r : Run) (c : Request) → Kept r → Kept (step r c)
step_kept r c k =
    let q = r.flows in
    let a = answer_of q c in
    let m = moves q c k.whole in
    let into = admitted_by q c a in
    let out = departed_by a in
    record {
      whole = whole-kept q c k.whole;
      order =
          λ flow.
          rw (of-flow-append flow r.admitted into, of-flow-append flow r.departed out)
          (in_order (of_flow flow r.admitted) (of_flow flow r.departed) (queued flow q) (of_flow flow into) (of_flow flow out) _
          (k.order flow) (m.order flow));
      all-bytes =
          rw (of-all-append r.admitted into, of-all-append r.departed out)
          (omega (
            arith,
            k.all-bytes,
            m.all-bytes,
            bytes-append (of_all r.admitted) (of_all into),
            bytes-append (of_all r.departed) (of_all out),
          ));
      all-count = omega (arith, k.all-count, m.all-count, length-append r.admitted into, length-append r.departed out);
      counted =
          λ v.
          let counts = q.state.common.verdicts in
          ap (λ l. get_or l (place_of v) 0) m.counted
          ∙ omega (arith, counted-at counts a v k.whole.five, k.counted v, times-last (is_verdict v) r.answers a);
    }

steps : (r : Run) (requests : List Request) → Kept r → Kept (foldl step r requests)
steps r [] k = k
steps r (c ∷ requests) k = steps (step r c) requests (step_kept r c k)

abbrev begins : Flows → Run
begins q = record { flows = q; admitted = []; departed = []; answers = [] }

pub run-kept : (settings : Settings) (clock : ℕ) (handles sizes : List ℕ) (requests : List Request) → fresh_refusal settings clock ≡ 0 →
    Kept (run settings clock handles sizes requests)
run-kept settings clock handles sizes requests e =
    steps _ requests
    (subst (λ q. Kept (begins q)) (sym (begun-is settings clock e handles sizes))
    (record {
      whole = begun-whole settings clock e handles sizes;
      order = λ flow. sym (begun-empty settings clock e handles sizes flow);
      all-bytes = refl;
      all-count = refl;
      counted = no-counts;
    }))
