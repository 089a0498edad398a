-- `departing`: a refused departure hands out nothing, and the word of another one has code 0.
use native.Mathlib.Omega.{arith}
use Rattle.pair_words.specs.Words.{pair_of, which_of}
use Rattle.pair_burst.proofs.Steps.{departure-small}
use Rattle.pair_burst.proofs.one.departing.Goals as goal

pub word-requires : goal.word-requires
word-requires c =
    let a = c.args in
    let small = departure-small (pair_of a.second a.shared.now a.own.now a.other.now) (which_of a.second) a.handles.now a.sizes.now a.clock in
    (omega arith, rw c.depart-code.ensures.4 small.1)
