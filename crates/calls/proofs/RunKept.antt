-- What every call keeps of a queue that is handed back untouched: the one induction over a list of calls.
use mathlib.Core.Path.{◌≡◌, ap, ◌∙◌}
use mathlib.Core.Bool.{Bool, cond}
use mathlib.Core.List.{List, [], ◌∷◌, ◌++◌, append_assoc, foldl}
use Prim.Native.Nat.{◌+◌}
use native.Mathlib.Omega.{arith}
use Rattle.pie.specs.declared.Verdict.{Verdict}
use Rattle.calls.specs.Conservation.{Empty, Held, Keeps, Readings, times_given}
use Rattle.calls.specs.FirstInFirstOut.{InOrder, MovesInOrder}
use Rattle.calls.specs.Handed.{QueueKind, Run, begin, run, step}
use Rattle.calls.specs.Packets.{bytes_of}
use Rattle.calls.proofs.Packets.{bytes-append, sized-append, sized-rest}

-- a property of runs that each step keeps
pub steps : (k : QueueKind) (P : Run k → Type 0) → ((r : Run k) (c : k.kind.Call) → P r → P (step k r c)) →
    (r : Run k) (calls : List k.kind.Call) → P r → P (foldl (step k) r calls)
steps k P keep r [] p = p
steps k P keep r (c ∷ calls) p = steps k P keep (step k r c) calls (keep r c p)

pub step-in-order : (k : QueueKind) (r : Run k) (c : k.kind.Call) → MovesInOrder k r.queue c → InOrder k r → InOrder k (step k r c)
step-in-order k r c moved ordered = simp (ordered, append_assoc, moved)

times-last : {A : Type 0} (is : A → Bool) (answers : List A) (a : A) →
    times_given is (answers ++ a ∷ []) ≡ times_given is answers + cond (is a) 1 0
times-last is [] a = omega arith
times-last is (b ∷ answers) a = omega (arith, times-last is answers a)

module _ (k : QueueKind) (read : Readings k) (Sound : k.kind.State → Type 0) (keeps : Keeps k read Sound) where
  pub record Kept (r : Run k) : Type 0 where
    pub sound : Sound r.queue
    pub order : InOrder k r
    pub held : Held k read r.queue
    pub counted : (v : Verdict) → read.counted r.queue v ≡ times_given (read.is_verdict v) r.answers

  begin-kept : (q : k.kind.State) → Sound q → Empty k read q → Kept (begin k q)
  begin-kept q s e =
      record {
        sound = s;
        order = rw e.queued;
        held = record { bytes = e.bytes ∙ rw e.queued; sized = rw e.queued tt };
        counted = e.counted;
      }

  step-held : (q : k.kind.State) (c : k.kind.Call) → Sound q → Held k read q → Held k read (k.kind.next q c)
  step-held q c s h =
      let a = k.kind.answer q c in
      let moved = keeps.order q c s in
      record {
        bytes =
            omega (
              arith,
              keeps.bytes q c s,
              h.bytes,
              ap bytes_of moved,
              bytes-append (k.queued q) (k.admitted_by c a),
              bytes-append (k.departed_by a) (k.queued (k.kind.next q c)),
            );
        sized =
            sized-rest (k.departed_by a) _
            (rw moved at (sized-append (k.queued q) (k.admitted_by c a) h.sized (keeps.sized q c s)));
      }

  step_kept : (r : Run k) (c : k.kind.Call) → Kept r → Kept (step k r c)
  step_kept r c h =
      record {
        sound = keeps.sound r.queue c h.sound;
        order = step-in-order k r c (keeps.order r.queue c h.sound) h.order;
        held = step-held r.queue c h.sound h.held;
        counted =
            λ v.
            omega (
              arith,
              h.counted v,
              keeps.counted r.queue c h.sound v,
              times-last (read.is_verdict v) r.answers (k.kind.answer r.queue c),
            );
      }

  pub run-kept : (start : k.kind.State) (calls : List k.kind.Call) → Sound start → Empty k read start → Kept (run k start calls)
  run-kept start calls s e = steps k Kept step_kept (begin k start) calls (begin-kept start s e)
