-- The words of a record: of what all flows have in common, of one flow and of all.
use Rattle.std.specs.Prelude.{List, [], ◌∷◌, ◌++◌, ℕ, ◌+◌, get_or, set}
use Rattle.schedule.specs.declared.Lists.{Lists}
use Rattle.fq_state.specs.declared.Common.{Common}
use Rattle.fq_state.specs.declared.Flow.{Flow}

-- the nineteen words of what all flows have in common, and of where the lists stand
unfoldable pub common_words : Common → Lists → List ℕ
common_words c l =
    c.settings.target.0
    ∷ c.settings.buffer.0
    ∷ c.settings.slots
    ∷ c.settings.salt
    ∷ c.clock.0
    ∷ c.last.0
    ∷ c.backlog.count
    ∷ c.backlog.bytes.0
    ∷ c.store.used
    ∷ c.store.freed
    ∷ c.store.spare
    ∷ get_or c.verdicts 0 0
    ∷ get_or c.verdicts 1 0
    ∷ get_or c.verdicts 2 0
    ∷ get_or c.verdicts 3 0
    ∷ get_or c.verdicts 4 0
    ∷ l.first
    ∷ l.old
    ∷ l.listed
    ∷ []

-- the words of a flow
abbrev pub fields_of : Flow → List ℕ
fields_of f =
    f.prob
    ∷ f.old
    ∷ f.allowance
    ∷ f.accumulated
    ∷ f.average
    ∷ f.measuring
    ∷ f.start
    ∷ f.counted
    ∷ f.count
    ∷ f.bytes
    ∷ f.head
    ∷ f.tail
    ∷ []

-- the words with these written from place k + j on
abbrev pub written : (words : List ℕ) (k j : ℕ) (fields : List ℕ) → List ℕ
written w k j [] = w
written w k j (v ∷ vs) = written (set w (k + j) v) k (j + 1) vs

-- the words of flows, one flow behind the other: words and flows determine each other
unfoldable pub flow_words : List Flow → List ℕ
flow_words [] = []
flow_words (f ∷ flows) = fields_of f ++ flow_words flows
