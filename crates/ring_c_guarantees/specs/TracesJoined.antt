-- Over any list of C calls from any words, each given the words that the last one left: calls, numbers, packets and words are, entry by
-- entry, those of the trace over states.
use Rattle.std.specs.Prelude.{◌≡◌, List, map, ℕ}
use Rattle.ring.specs.declared.State.{State}
use Rattle.refusals.specs.Codes.{code_of}
use Rattle.ring_words.specs.Words.{state_of}
use Rattle.ring.specs.Calls.{Call}
use Rattle.ring_guarantees.specs.Calls.{Entry, trace}
use Rattle.ring_c_guarantees.specs.CCalls.{CEntry, c_trace}
use Rattle.ring_words.specs.Lent.{packet_for}

-- a call, the state that it was given, the number that it answered, the packet that it wrote, and the state that it returned
pub record TraceLine : Type 0 where
  pub call : Call
  pub given : State
  pub code : ℕ
  pub packet : List ℕ
  pub returned : State

-- by the words
abbrev pub line_of_words : CEntry → TraceLine
line_of_words e =
    record { call = e.call; given = state_of e.given; code = e.code; packet = e.packet; returned = state_of e.returned }

-- by the states
abbrev pub line_of_states : Entry → TraceLine
line_of_states e =
    record {
      call = e.call;
      given = e.given;
      code = code_of e.answer;
      packet = packet_for e.call e.answer;
      returned = e.returned;
    }

abbrev pub TracesJoined : Type 0
TracesJoined =
    (words : List ℕ) (calls : List Call) → map line_of_words (c_trace words calls) ≡ map line_of_states (trace (state_of words) calls)
