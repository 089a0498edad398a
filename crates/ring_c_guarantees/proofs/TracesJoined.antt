-- The trace over words is the trace over states.
use mathlib.Core.Path.{◌≡◌, refl, ap}
use mathlib.Core.List.{List, [], ◌∷◌, map}
use Prim.Native.Nat.{ℕ}
use Rattle.ring.specs.declared.State.{State}
use Rattle.ring_words.specs.Words.{state_of}
use Rattle.ring.specs.Calls.{Call, reply}
use Rattle.ring_guarantees.specs.Calls.{entry, trace}
use Rattle.ring_c_guarantees.specs.CCalls.{c_entry, c_trace}
use Rattle.ring_words.specs.Lent.{code_given, packet_written, words_left}
use Rattle.ring_c_guarantees.specs.TracesJoined.{TraceLine, TracesJoined, line_of_states, line_of_words}
use Rattle.ring_c_guarantees.proofs.CReplies.{words_left_lem}

line_same : (words : List ℕ) (c : Call) → line_of_words (c_entry words c) ≡ line_of_states (entry (state_of words) c)
line_same w c =
    let line : State → TraceLine
    = λ s. record { call = c; given = state_of w; code = code_given w c; packet = packet_written w c; returned = s } in
    ap line (words_left_lem w c)

pub traces-joined : TracesJoined
traces-joined w [] = refl
traces-joined w (c ∷ cs) =
    let first = line_same w c in
    let rest : map line_of_words (c_trace (words_left w c) cs) ≡ map line_of_states (trace (reply (state_of w) c).state cs)
    = rw (words_left_lem w c) at (traces-joined (words_left w c) cs) in
    rw (first, rest)
