-- Question 2: a full allowance lasts 150,000 microseconds, by the general law.
use mathlib.Core.Path.{◌≡◌, ap}
use mathlib.Core.List.{List, Memᴰ}
use Prim.Native.Nat.{ℕ, ◌+◌, ◌*◌, ◌≤◌}
use native.Mathlib.Omega.{arith}
use Rattle.pie.specs.Constants.{period}
use Rattle.calls.proofs.Traces.{Cut, cut}
use Rattle.pie_guarantees.proofs.AllowanceLasts as proved
use Rattle.refusals.specs.Answer.{ticked}
use Rattle.ring.specs.Fresh.{fresh, fresh_state}
use Rattle.ring.specs.declared.State.{State}
use Rattle.ring.proofs.Kept.{made-accepted}
use Rattle.ring_guarantees.specs.AllowanceLasts.{periods}
use Rattle.ring_guarantees.specs.Calls.{ByLimitsBefore, Entry, ring_calls}
use Rattle.ring.specs.Calls.{update}
use Rattle.ring_guarantees.specs.Grace.{Grace}
use Rattle.ring_guarantees.specs.FreshGrace.{FreshGrace}
use Rattle.ring_guarantees.proofs.AllowanceLasts.{allowance-lasts, by-limits}
use Rattle.ring_guarantees.proofs.RingSheds.{clock_in, ring-sheds, ring_shedding, tells}

-- after an accepted tick, while the allowance that it returned lasts
pub ticked-by-limits : {P : State → Type 0} (e : Entry) (later : List Entry) (t end : ℕ) → Cut ring_calls P e later →
    e.call ≡ update t → e.answer ≡ ticked → end ≤ t + period * periods e.returned.pie.allowance.0 →
    (a : Entry) → Memᴰ a later → ByLimitsBefore end a
ticked-by-limits e later t end here ec ea h a m =
    let low = proved.allowed-low ring_shedding ring-sheds e.returned in
    by-limits end a
    (proved.ticked-by-limits ring_shedding ring-sheds e later end here (ap tells ea) (omega (arith, h, ap clock_in ec, low)) a m)

-- any state serves: a call that is accepted was given a well-formed one
pub grace : Grace
grace start calls before e later t q ec ea full =
    let here = cut ring_calls (λ n x. tt) (λ n s. Unit {0}) (λ n s h c. tt) (tt {0}) start calls before e later tt q in
    ticked-by-limits e later t _ here ec ea (omega arith)

pub fresh-grace : FreshGrace
unfolding fresh
fresh-grace settings t calls e = rw (made-accepted settings t e) (λ a m. allowance-lasts (fresh_state settings t) calls a m)
