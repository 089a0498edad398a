-- Question 2 in general for C calls, from the same over states.
use mathlib.Core.Path.{refl}
use mathlib.Core.List.Memᴰ
use Rattle.ring_words.specs.Words.{state_of}
use Rattle.ring_guarantees.proofs.AllowanceLasts.{allowance-lasts}
use Rattle.ring_c_guarantees.specs.CAllowanceLasts.{CAllowanceLasts, c_lasts_until}
use Rattle.ring_c_guarantees.proofs.CAnswered.{trace-of}
use Rattle.ring_c_guarantees.proofs.CTraces.{entry_of, own-by-limits, own_in}

pub c-allowance-lasts : CAllowanceLasts
unfolding state_of
c-allowance-lasts w calls a m =
    own-by-limits (c_lasts_until w) a (own_in w calls _ refl a m)
    (allowance-lasts (state_of w) calls (entry_of a) (rw (trace-of w calls) at (Memᴰ.map entry_of m)))
