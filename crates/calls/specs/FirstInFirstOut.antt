-- First in first out, of any kind of queue: where each call puts packets at the tail and takes them from the head, those admitted in a run
-- are those departed and then those queued, handle and size, in order. `Sound` is what the kind asks of a queue for that, and keeps.
use Rattle.std.specs.Prelude.{◌≡◌, List, [], ◌++◌}
use Rattle.calls.specs.Handed.{QueueKind, Run, run}

abbrev pub InOrder : (k : QueueKind) → Run k → Type 0
InOrder k r = r.admitted ≡ r.departed ++ k.queued r.queue

-- one call: what enters comes after those queued, and what leaves comes before those that stay
abbrev pub MovesInOrder : (k : QueueKind) → k.kind.State → k.kind.Call → Type 0
MovesInOrder k q c =
    let a = k.kind.answer q c in
    k.queued q ++ k.admitted_by c a ≡ k.departed_by a ++ k.queued (k.kind.next q c)

abbrev pub FirstInFirstOut : Type 1
FirstInFirstOut =
    (k : QueueKind) (Sound : k.kind.State → Type 0) →
    ((q : k.kind.State) (c : k.kind.Call) → Sound q → Sound (k.kind.next q c)) →
    ((q : k.kind.State) (c : k.kind.Call) → Sound q → MovesInOrder k q c) →
    (start : k.kind.State) (calls : List k.kind.Call) → Sound start → k.queued start ≡ [] → InOrder k (run k start calls)
