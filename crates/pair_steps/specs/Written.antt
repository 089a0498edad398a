-- What the inner functions of a call write.
use Rattle.std.specs.Prelude.{List, ℕ, ◌+◌, get_or, set}
use Rattle.pie.specs.Verdicts.{place_of}
use Rattle.pie.specs.declared.Verdict.{Verdict}
use Rattle.store.specs.Put.{ends_after_put}
use Rattle.pair_words.specs.Words.{ends_of}

-- an arrival with this verdict: clock, accumulated probability and the verdict's count
abbrev pub settled_words : (words : List ℕ) (clock accumulated : ℕ) → Verdict → List ℕ
settled_words w clock accumulated v =
    let early = set (set w 2 clock) 7 accumulated in set early (16 + place_of v) (get_or early (16 + place_of v) 0 + 1)

-- a packet that takes this slot: count, bytes, head and tail
abbrev pub entered_words : (words : List ℕ) (size place : ℕ) → List ℕ
entered_words w size place =
    let ends = ends_after_put (ends_of w) (get_or w 12 0) place in
    let counted = set w 12 (get_or w 12 0 + 1) in
    set (set (set counted 13 (get_or counted 13 0 + size)) 14 ends.head) 15 ends.tail
