-- A kind of queue that sheds load by PIE: what is read of its states, calls and answers, and what each call does to what is read. A kind
-- with no profile (Q-12) is never calm, always active, and begins an arrival's rules in the state that it is given: every line here then
-- says what it would without `calm`, `active` and `begun`.
use Rattle.std.specs.Prelude.{◌≡◌, Bool, true, false, cond, ◌⊎◌, ℕ, ◌+◌, ◌-◌, ◌*◌, ◌≤◌, ◌<◌}
use Rattle.units.specs.Kinds.{none, whole}
use Rattle.pie.specs.Constants.{full_allowance, largest, most_accumulated, period}
use Rattle.pie.specs.DepartureRate.{rate_after}
use Rattle.pie.specs.DropDecision.{accumulated_after, drop_decision}
use Rattle.pie.specs.Start.{restarted}
use Rattle.pie.specs.Update.{updated}
use Rattle.pie.specs.Verdicts.{admitted}
use Rattle.pie.specs.declared.Pie.{Pie}
use Rattle.pie.specs.declared.Verdict.{Verdict}
use Rattle.pie.specs.declared.Verdict.TheVariants.{DroppedBytes, DroppedSlots, Enqueued}
use Rattle.calls.specs.Kind.{Kind}

-- what an answer tells
pub data Told : Type 0 where
  -- a refusal
  nothing : Told
  -- an arrival, decided so
  decided : Verdict → Told
  -- a departure, of a packet of this size
  departed : (size : ℕ) → Told
  ticked : Told

pub record Shedding : Type 1 where
  pub kind : Kind
  -- of a state: the algorithm's record, the target, what is queued, and the clock of the last tick
  pub pie : kind.State → Pie
  pub target : kind.State → ℕ
  pub count : kind.State → ℕ
  pub bytes : kind.State → ℕ
  pub last : kind.State → ℕ
  -- of a state: whether its ticks adjust by the calm profile, whether it is active (an inactive queue never sheds early), and the state in
  -- which an arrival's rules begin (RFC 8033, 5.3)
  pub calm : kind.State → Bool
  pub active : kind.State → Bool
  pub begun : kind.State → kind.State
  -- the state is well formed
  pub Formed : kind.State → Type 0
  -- of a call: its clock, and what an arrival brings
  pub clock : kind.Call → ℕ
  pub size : kind.Call → ℕ
  pub ecn : kind.Call → Bool
  pub u : kind.Call → ℕ
  -- rules 1 and 2 of an arrival
  pub bytes_full : kind.State → kind.Call → Bool
  pub slots_full : kind.State → kind.Call → Bool
  pub tells : kind.Answer → Told

-- the verdict by rules 1 and 2, and `v` where neither holds
abbrev pub limited : (k : Shedding) → k.kind.State → k.kind.Call → Verdict → Verdict
limited k s c v = cond (k.bytes_full s c) DroppedBytes (cond (k.slots_full s c) DroppedSlots v)

-- rules 3 to 7 for an active queue; an inactive one enqueues
abbrev pub decision : (k : Shedding) → k.kind.State → k.kind.Call → Verdict
decision k s c = cond (k.active s) (drop_decision (k.pie s) (k.target s) (k.bytes s) (k.ecn c) (k.u c)) Enqueued

-- the accumulated probability after an arrival with this verdict: of an inactive queue it stays
abbrev pub accumulated_with : (k : Shedding) → k.kind.State → Verdict → ℕ
accumulated_with k s v =
    cond (k.active s) (accumulated_after (k.pie s) (k.target s) (k.bytes s) v) (k.pie s).accumulated.0

-- ── what a call does, by what it tells: s is the state that it is given, s' the one that it returns ──

pub record Unchanged (k : Shedding) (s s' : k.kind.State) : Type 0 where
  pub pie : k.pie s' ≡ k.pie s
  pub active : k.active s' ≡ k.active s
  pub target : k.target s' ≡ k.target s
  pub count : k.count s' ≡ k.count s
  pub bytes : k.bytes s' ≡ k.bytes s
  pub last : k.last s' ≡ k.last s

-- an inactive queue has turned active, and its algorithm begins anew
pub record Activated (k : Shedding) (s b : k.kind.State) : Type 0 where
  pub inactive : k.active s ≡ false
  pub active : k.active b ≡ true
  pub pie : k.pie b ≡ restarted

-- of the state s and the one in which an arrival's rules begin: nothing that is read has changed, or the queue has turned active
pub record Begun (k : Shedding) (s b : k.kind.State) : Type 0 where
  pub turned : ((k.pie b ≡ k.pie s) × (k.active b ≡ k.active s)) ⊎ Activated k s b
  pub target : k.target b ≡ k.target s
  pub count : k.count b ≡ k.count s
  pub bytes : k.bytes b ≡ k.bytes s
  pub last : k.last b ≡ k.last s
  pub bytes_full : (c : k.kind.Call) → k.bytes_full b c ≡ k.bytes_full s c
  pub slots_full : (c : k.kind.Call) → k.slots_full b c ≡ k.slots_full s c

-- here s is the state in which the rules begin
pub record Arrived (k : Shedding) (s s' : k.kind.State) (c : k.kind.Call) (v : Verdict) : Type 0 where
  pub since : k.last s ≤ k.clock c
  -- rules 1 to 7
  pub verdict : v ≡ limited k s c (decision k s c)
  -- the accumulated probability moves on, an admitted packet is queued, and the rest stays
  pub accumulated : (k.pie s').accumulated.0 ≡ accumulated_with k s v
  pub count : k.count s' ≡ cond (admitted v) (k.count s + 1) (k.count s)
  pub bytes : k.bytes s' ≡ cond (admitted v) (k.bytes s + k.size c) (k.bytes s)
  pub prob : (k.pie s').prob ≡ (k.pie s).prob
  pub old : (k.pie s').old ≡ (k.pie s).old
  pub allowance : (k.pie s').allowance ≡ (k.pie s).allowance
  pub rate : (k.pie s').rate ≡ (k.pie s).rate
  pub active : k.active s' ≡ k.active s
  pub target : k.target s' ≡ k.target s
  pub last : k.last s' ≡ k.last s

pub record Departed (k : Shedding) (s s' : k.kind.State) (c : k.kind.Call) (size : ℕ) : Type 0 where
  -- a packet of this size is queued, and what stays are packets of at most 65,535 bytes
  pub some : 1 ≤ k.count s
  pub fits : size ≤ k.bytes s
  pub others : k.bytes s - size ≤ largest * (k.count s - 1)
  -- it leaves, the departure rate moves on, and the rest stays
  pub count : k.count s' ≡ k.count s - 1
  pub bytes : k.bytes s' ≡ k.bytes s - size
  pub rate : (k.pie s').rate ≡ rate_after (k.pie s).rate (k.clock c) size (k.count s - 1) (k.bytes s - size)
  pub prob : (k.pie s').prob ≡ (k.pie s).prob
  pub old : (k.pie s').old ≡ (k.pie s).old
  pub allowance : (k.pie s').allowance ≡ (k.pie s).allowance
  pub accumulated : (k.pie s').accumulated ≡ (k.pie s).accumulated
  pub active : k.active s' ≡ k.active s
  pub target : k.target s' ≡ k.target s
  pub last : k.last s' ≡ k.last s

pub record Ticked (k : Shedding) (s s' : k.kind.State) (c : k.kind.Call) : Type 0 where
  pub due : k.last s + period ≤ k.clock c
  -- rules 1 to 9 for an active queue; an inactive one stays as it is, but for the last tick
  pub pie : k.pie s' ≡ cond (k.active s) (updated (k.pie s) (k.calm s) (k.target s) (k.bytes s)) (k.pie s)
  pub active : k.active s ≡ false → k.active s' ≡ false
  pub last : k.last s' ≡ k.clock c
  pub target : k.target s' ≡ k.target s
  pub count : k.count s' ≡ k.count s
  pub bytes : k.bytes s' ≡ k.bytes s

-- a call that is accepted was given a well-formed state
abbrev pub Does : (k : Shedding) (s s' : k.kind.State) (c : k.kind.Call) → Told → Type 0
Does k s s' c nothing = Unchanged k s s'
Does k s s' c (decided v) = k.Formed s × Arrived k (k.begun s) s' c v
Does k s s' c (departed size) = k.Formed s × Departed k s s' c size
Does k s s' c ticked = k.Formed s × Ticked k s s' c

-- what well-formedness says of what is read
pub record InRange (k : Shedding) (s : k.kind.State) : Type 0 where
  pub target-low : 0 < k.target s
  pub prob-high : (k.pie s).prob.0 ≤ whole
  pub allowance-high : (k.pie s).allowance.0 ≤ full_allowance
  pub accumulated-high : (k.pie s).accumulated.0 < most_accumulated
  pub bytes_high : k.bytes s ≤ largest * k.count s
  pub inactive : k.active s ≡ false → (k.pie s).prob.0 ≡ none
  -- no measurement runs on an empty queue
  pub busy : (k.pie s).rate.measuring ≡ true → 0 < k.count s

-- what a kind must show: of each state, where an arrival's rules begin; of each call, what it does; that calls keep states well formed; and
-- what that says
pub record Sheds (k : Shedding) : Type 0 where
  pub begins : (s : k.kind.State) → Begun k s (k.begun s)
  pub does : (s : k.kind.State) (c : k.kind.Call) → Does k s (k.kind.next s c) c (k.tells (k.kind.answer s c))
  pub kept : (s : k.kind.State) (c : k.kind.Call) → k.Formed s → k.Formed (k.kind.next s c)
  pub ranges : (s : k.kind.State) → k.Formed s → InRange k s
