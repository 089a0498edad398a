-- Demand 2 over lists of C calls, from the same over states.
use mathlib.Core.Path.{◌≡◌, refl, ap, ap₂, sym, ◌∙◌}
use mathlib.Core.List.{List, ◌++◌}
use Prim.Native.Nat.{ℕ}
use native.Mathlib.Omega.{arith}
use Rattle.laws.proofs.Choice.{either}
use Rattle.ring.specs.Answer.{Reply}
use Rattle.refusals.specs.Answer.{made}
use Rattle.ring.specs.Fresh.{fresh, settings_of}
use Rattle.ring.specs.Refusals.{settings_refused}
use Rattle.refusals.specs.Codes.{code_of}
use Rattle.ring_words.specs.Words.{state_of}
use Rattle.ring_guarantees.specs.FirstInFirstOut.{InOrder}
use Rattle.ring_guarantees.specs.Handed.{Run, queued}
use Rattle.ring_guarantees.proofs.FirstInFirstOut.{first-in-first-out}
use Rattle.ring_c_guarantees.specs.CFirstInFirstOut.{CFirstInFirstOut, CInOrder}
use Rattle.ring_words.specs.Lent.{Lent, queue_of}
use Rattle.ring_c_guarantees.specs.CHanded.{Logged, fresh_code, queued_in}
use Rattle.ring_c_guarantees.specs.RunsJoined.{SameRun}
use Rattle.ring_c_guarantees.proofs.RunsJoined.{runs-joined}

pub fresh-made : (target buffer slots profile clock : ℕ) → fresh_code target buffer slots profile clock ≡ 0 →
    (fresh (settings_of target buffer slots profile) clock).answer ≡ made
unfolding fresh
fresh-made target buffer slots profile clock =
    either (λ (r : Reply). code_of r.answer ≡ 0 → r.answer ≡ made) (settings_refused (settings_of target buffer slots profile) clock) _ _
    (λ e. absurd (omega arith))
    (λ e. refl)

pub queued-held : (q : Lent) → queued_in q ≡ queued (queue_of q)
unfolding state_of
queued-held q = refl

in_order : (q : Lent) (log : List Logged) (r : Run) → SameRun q log r → InOrder r → CInOrder q log
in_order q log r same ordered =
    same.admitted ∙ ordered ∙ sym (ap₂ ◌++◌ same.departed (queued-held q ∙ ap queued same.queue))

pub c-first-in-first-out : CFirstInFirstOut
c-first-in-first-out given target buffer slots profile clock requests accepted =
    let settings = settings_of target buffer slots profile in
    in_order _ _ _ (runs-joined given target buffer slots profile clock requests)
    (first-in-first-out settings clock given.handles given.sizes requests (fresh-made target buffer slots profile clock accepted))
