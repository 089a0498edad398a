-- Several queues in one state, called in any order: a part that only its own calls change, and change as they do where it is alone, answers
-- as if it were alone.
use Rattle.std.specs.Prelude.{◌≡◌}
use mathlib.Core.List.{List, [], ◌∷◌, foldl, map}
use Rattle.calls.specs.Kind.{Kind}
use Rattle.calls.specs.Traces.{Entry, trace}

-- a call of the whole is one of the part's own, or another's
pub data Whose (Call : Type 0) : Type 0 where
  own : Call → Whose Call
  another : Whose Call

-- a part of a kind, and the kind that it is alone
pub record Part (whole alone : Kind) : Type 0 where
  pub state : whole.State → alone.State
  pub answer : whole.Answer → alone.Answer
  pub whose : whole.Call → Whose alone.Call

abbrev added : {A : Type 0} → Whose A → List A → List A
added (own c) calls = c ∷ calls
added another calls = calls

-- the part's own calls of a list, and the answers that they got in a trace
abbrev pub own_calls : {whole alone : Kind} → Part whole alone → List whole.Call → List alone.Call
own_calls p [] = []
own_calls p (c ∷ calls) = added (p.whose c) (own_calls p calls)

abbrev kept : {A B : Type 0} → Whose A → B → List B → List B
kept (own c) answer answers = answer ∷ answers
kept another answer answers = answers

abbrev pub own_answers : {whole alone : Kind} → Part whole alone → List (Entry whole) → List alone.Answer
own_answers p [] = []
own_answers p (e ∷ entries) = kept (p.whose e.call) (p.answer e.answer) (own_answers p entries)

-- one call of the whole: an own one does to the part what it does where it is alone, and is answered so; another's leaves the part
abbrev pub Does : {whole alone : Kind} → Part whole alone → whole.State → whole.Call → Whose alone.Call → Type 0
Does {whole} {alone} p s c (own d) =
    (p.state (whole.next s c) ≡ alone.next (p.state s) d) × (p.answer (whole.answer s c) ≡ alone.answer (p.state s) d)
Does {whole} {alone} p s c another = p.state (whole.next s c) ≡ p.state s

pub record AsAlone {whole alone : Kind} (p : Part whole alone) (s : whole.State) (calls : List whole.Call) : Type 0 where
  pub answers : own_answers p (trace whole s calls) ≡ map (λ e. e.answer) (trace alone (p.state s) (own_calls p calls))
  pub state : p.state (foldl whole.next s calls) ≡ foldl alone.next (p.state s) (own_calls p calls)

-- `Sound` is what the kind asks of a whole for that, and keeps
abbrev pub Parts : Type 1
Parts =
    (whole alone : Kind) (p : Part whole alone) (Sound : whole.State → Type 0) →
    ((s : whole.State) (c : whole.Call) → Sound s → Sound (whole.next s c)) →
    ((s : whole.State) (c : whole.Call) → Sound s → Does p s c (p.whose c)) →
    (s : whole.State) (calls : List whole.Call) → Sound s → AsAlone p s calls
