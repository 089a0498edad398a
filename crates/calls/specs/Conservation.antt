-- Conservation, of any kind of queue: the queued bytes are what went in less what came out, and each count is the number of answers so
-- given.
use Rattle.std.specs.Prelude.{◌≡◌, Bool, cond, ◌≢◌, List, [], ◌∷◌, ℕ, ◌+◌, ◌-◌, ◌≤◌, length}
use Rattle.pie.specs.declared.Verdict.{Verdict}
use Rattle.calls.specs.FirstInFirstOut.{MovesInOrder}
use Rattle.calls.specs.Handed.{QueueKind, Run, run}
use Rattle.calls.specs.Packets.{Sized, bytes_of}

-- how many of the answers pass the test
abbrev pub times_given : {A : Type 0} → (A → Bool) → List A → ℕ
times_given is [] = 0
times_given is (a ∷ rest) = cond (is a) 1 0 + times_given is rest

-- what is read of a queue and of an answer
pub record Readings (k : QueueKind) : Type 0 where
  pub bytes : k.kind.State → ℕ
  pub count : k.kind.State → ℕ
  -- the count that the queue keeps of this verdict, and whether an answer is it
  pub counted : k.kind.State → Verdict → ℕ
  pub is_verdict : Verdict → k.kind.Answer → Bool
  -- the refusal of this number
  pub refused : (number : ℕ) → k.kind.Answer

pub record Conserved (k : QueueKind) (read : Readings k) (r : Run k) : Type 0 where
  -- queued bytes = bytes admitted − bytes departed, a true difference; and so the count
  pub bytes : read.bytes r.queue ≡ bytes_of r.admitted - bytes_of r.departed
  pub bytes-cover : bytes_of r.departed ≤ bytes_of r.admitted
  pub count : read.count r.queue ≡ length r.admitted - length r.departed
  pub count-cover : length r.departed ≤ length r.admitted
  -- the bytes are those of the packets that are queued
  pub held : read.bytes r.queue ≡ bytes_of (k.queued r.queue)
  -- each count is the number of arrivals so answered
  pub verdicts : (v : Verdict) → read.counted r.queue v ≡ times_given (read.is_verdict v) r.answers
  -- whatever call comes next, it is not refused by 2 or 9
  pub never-2 : (c : k.kind.Call) → k.kind.answer r.queue c ≢ read.refused 2
  pub never-9 : (c : k.kind.Call) → k.kind.answer r.queue c ≢ read.refused 9

-- ── what one call keeps ──

-- the bytes are those of the queued packets, and each of these has a size that an arrival may have
pub record Held (k : QueueKind) (read : Readings k) (q : k.kind.State) : Type 0 where
  pub bytes : read.bytes q ≡ bytes_of (k.queued q)
  pub sized : Sized (k.queued q)

-- `Sound` is what the kind asks of a queue (that it is well formed), and keeps
pub record Keeps (k : QueueKind) (read : Readings k) (Sound : k.kind.State → Type 0) : Type 0 where
  pub sound : (q : k.kind.State) (c : k.kind.Call) → Sound q → Sound (k.kind.next q c)
  pub order : (q : k.kind.State) (c : k.kind.Call) → Sound q → MovesInOrder k q c
  -- the bytes move as the packets do, and what enters has a size that an arrival may have
  pub bytes : (q : k.kind.State) (c : k.kind.Call) → Sound q → let a = k.kind.answer q c in
      read.bytes (k.kind.next q c) + bytes_of (k.departed_by a) ≡ read.bytes q + bytes_of (k.admitted_by c a)
  pub sized : (q : k.kind.State) (c : k.kind.Call) → Sound q → Sized (k.admitted_by c (k.kind.answer q c))
  pub count : (q : k.kind.State) → Sound q → length (k.queued q) ≡ read.count q
  -- a verdict raises its own count by one, and nothing else changes it
  pub counted : (q : k.kind.State) (c : k.kind.Call) → Sound q → (v : Verdict) →
      read.counted (k.kind.next q c) v ≡ read.counted q v + cond (read.is_verdict v (k.kind.answer q c)) 1 0
  pub not-2 : (q : k.kind.State) (c : k.kind.Call) → Sound q → k.kind.answer q c ≢ read.refused 2
  pub not-9 : (q : k.kind.State) (c : k.kind.Call) → Sound q → Held k read q → k.kind.answer q c ≢ read.refused 9

-- nothing queued and nothing counted
pub record Empty (k : QueueKind) (read : Readings k) (q : k.kind.State) : Type 0 where
  pub queued : k.queued q ≡ []
  pub bytes : read.bytes q ≡ 0
  pub counted : (v : Verdict) → read.counted q v ≡ 0

abbrev pub Conservation : Type 1
Conservation =
    (k : QueueKind) (read : Readings k) (Sound : k.kind.State → Type 0) → Keeps k read Sound →
    (start : k.kind.State) (calls : List k.kind.Call) → Sound start → Empty k read start → Conserved k read (run k start calls)
