-- What a call leaves as it was, of what all flows have in common and of where the lists stand.
use mathlib.Core.Path.{◌≡◌, refl, ap, ◌∙◌}
use mathlib.Core.Bool.{Bool, not, ◌&&◌}
use mathlib.Core.List.{List, [], ◌∷◌}
use Prim.Native.Nat.{ℕ, zero, suc, ◌+◌, ◌≤◌}
use native.Mathlib.Omega.{arith}
use lib.ListN.{drop, drop_of_length-le, get_or, length, set}
use lib.Seq.{drop-cons}
use Rattle.laws.proofs.Choice.{either}
use Rattle.pie.specs.Verdicts.{admitted, place_of, raised, total}
use Rattle.pie.specs.declared.Verdict.{Verdict}
use Rattle.pie.specs.declared.Verdict.TheVariants.{Enqueued, Marked, DroppedBytes, DroppedSlots, DroppedEarly}
use Rattle.schedule.specs.Entering.{is_listed}
use Rattle.schedule.specs.Ring.{Schedule, entered_in, two_lists}
use Rattle.schedule.specs.declared.Lists.{Lists}
use Rattle.fq_state.specs.State.{State}
use Rattle.fq_state.specs.declared.Common.{Common}
use Rattle.fq_rules.specs.Answer.{Reply, verdict}
use Rattle.fq_rules.specs.Arrival.{arrival, arrived_common, arrived_schedule}
use Rattle.fq_rules.specs.Departure.{departed_common, departure}
use Rattle.fq_rules.specs.Tick.{tick}
use Rattle.fq_words.specs.Words.{common_of, lists_of}
use Rattle.fq_words.specs.Written.{common_words}
use Rattle.fq_rules.proofs.Cases.{arrival-cases, departure-cases, tick-cases}

-- ── nineteen words ──

-- n words, from this place on
unfoldable words_from : (n k : ℕ) (w : List ℕ) → List ℕ
words_from zero k w = []
words_from (suc n) k w = get_or w k 0 ∷ words_from n (suc k) w

all_words : (n k : ℕ) (w : List ℕ) → length w ≡ k + n → drop k w ≡ words_from n k w
unfolding words_from
all_words zero k w e = drop_of_length-le w (omega arith)
all_words (suc n) k w e = drop-cons w k 0 (omega arith) ∙ ap (λ l. get_or w k 0 ∷ l) (all_words n (suc k) w (omega arith))

-- the words, each by its place
abbrev pub placed : List ℕ → List ℕ
placed w =
    get_or w 0 0
    ∷ get_or w 1 0
    ∷ get_or w 2 0
    ∷ get_or w 3 0
    ∷ get_or w 4 0
    ∷ get_or w 5 0
    ∷ get_or w 6 0
    ∷ get_or w 7 0
    ∷ get_or w 8 0
    ∷ get_or w 9 0
    ∷ get_or w 10 0
    ∷ get_or w 11 0
    ∷ get_or w 12 0
    ∷ get_or w 13 0
    ∷ get_or w 14 0
    ∷ get_or w 15 0
    ∷ get_or w 16 0
    ∷ get_or w 17 0
    ∷ get_or w 18 0
    ∷ []

pub nineteen : (w : List ℕ) → length w ≡ 19 → w ≡ placed w
unfolding words_from
nineteen w e = all_words 19 0 w e

-- ── an arrival ──

abbrev pub ArrivalStays : (s : State) (v : Verdict) (t : State) → Type 0
ArrivalStays s v t =
    (t.common.settings ≡ s.common.settings)
    × (t.common.last ≡ s.common.last)
    × (t.common.verdicts ≡ raised s.common.verdicts v)
    × (t.schedule.lists.first ≡ s.schedule.lists.first)
    × (t.schedule.lists.old ≡ s.schedule.lists.old)

abbrev Begins : (s t : Schedule) → Type 0
Begins s t = (t.lists.first ≡ s.lists.first) × (t.lists.old ≡ s.lists.old)

list-begins : (s : Schedule) (flow : ℕ) (v : Verdict) → Begins s (arrived_schedule s flow v)
unfolding arrived_schedule entered_in
list-begins s flow v = either (Begins s) (admitted v && not (is_listed (two_lists s) flow)) (entered_in s flow) s (refl, refl) (refl, refl)

counts-raised : (c : Common) (sizes : List ℕ) (clock size : ℕ) (said v : Verdict) → verdict v ≡ verdict said →
    let t = arrived_common c sizes clock size said in
    (t.settings ≡ c.settings) × (t.last ≡ c.last) × (t.verdicts ≡ raised c.verdicts v)
unfolding arrived_common
counts-raised c sizes clock size said v e = let same : v ≡ said = cc in rw same (refl, refl, refl)

pub arrival-stays : (s : State) (handles sizes : List ℕ) (clock : ℕ) (key : List ℕ) (size : ℕ) (ecn : Bool) (u : ℕ) (v : Verdict)
    (t : State) → t ≡ (arrival s handles sizes clock key size ecn u).state →
    verdict v ≡ (arrival s handles sizes clock key size ecn u).answer →
    ArrivalStays s v t
arrival-stays s handles sizes clock key size ecn u v t e a =
    rw e
    (arrival-cases (λ (r : Reply). verdict v ≡ r.answer → ArrivalStays s v r.state) s handles sizes clock key size ecn u
    (λ n z. let clash : ◌≡◌ {A = ℕ} 0 1 = cc in absurd (omega arith))
    (λ z.
    let c = counts-raised s.common sizes clock size _ v z in
    let l = list-begins s.schedule _ _ in (c.0, c.1, c.2, l.0, l.1))
    a)

abbrev arrived_words : (w : List ℕ) → Common → Lists → List ℕ
arrived_words w c l =
    get_or w 0 0
    ∷ get_or w 1 0
    ∷ get_or w 2 0
    ∷ get_or w 3 0
    ∷ c.clock.0
    ∷ get_or w 5 0
    ∷ c.backlog.count
    ∷ c.backlog.bytes.0
    ∷ c.store.used
    ∷ c.store.freed
    ∷ c.store.spare
    ∷ get_or w 11 0
    ∷ get_or w 12 0
    ∷ get_or w 13 0
    ∷ get_or w 14 0
    ∷ get_or w 15 0
    ∷ get_or w 16 0
    ∷ get_or w 17 0
    ∷ l.listed
    ∷ []

-- the verdict's count rises by one, which leaves it small
pub arrived-count : (w : List ℕ) (c : Common) (l : Lists) (v : Verdict) (at : ℕ) → at ≡ place_of v →
    get_or (arrived_words w c l) (11 + at) 0 ≤ total (common_of w).verdicts
unfolding common_of
arrived-count w c l v at e = rw e (go v)
  where
    go : (v : Verdict) → get_or (arrived_words w c l) (11 + place_of v) 0 ≤ total (common_of w).verdicts
    go Enqueued = omega arith
    go Marked = omega arith
    go DroppedBytes = omega arith
    go DroppedSlots = omega arith
    go DroppedEarly = omega arith

by-verdict : (w : List ℕ) (c : Common) (l : Lists) (v : Verdict) → c.settings ≡ (common_of w).settings → c.last ≡ (common_of w).last →
    c.verdicts ≡ raised (common_of w).verdicts v → l.first ≡ (lists_of w).first → l.old ≡ (lists_of w).old →
    set (arrived_words w c l) (11 + place_of v) (get_or (arrived_words w c l) (11 + place_of v) 0 + 1) ≡ common_words c l
unfolding common_of common_words lists_of raised
by-verdict w c l Enqueued s t r f o = rw (s, t, r, f, o)
by-verdict w c l Marked s t r f o = rw (s, t, r, f, o)
by-verdict w c l DroppedBytes s t r f o = rw (s, t, r, f, o)
by-verdict w c l DroppedSlots s t r f o = rw (s, t, r, f, o)
by-verdict w c l DroppedEarly s t r f o = rw (s, t, r, f, o)

-- what is written
abbrev pub arrived_in : (w : List ℕ) → Common → Lists → List ℕ
arrived_in w c l =
    set (set (set (set (set (set (set w 4 c.clock.0) 6 c.backlog.count) 7 c.backlog.bytes.0) 8 c.store.used) 9 c.store.freed) 10 c.store.spare)
    18 l.listed

pub arrived-in : (w : List ℕ) (c : Common) (l : Lists) → length w ≡ 19 → arrived_in w c l ≡ arrived_words w c l
arrived-in w c l long = ap (λ (x : List ℕ). arrived_in x c l) (nineteen w long)

pub arrived-words : (w : List ℕ) (c : Common) (l : Lists) (v : Verdict) (at : ℕ) → at ≡ place_of v → c.settings ≡ (common_of w).settings →
    c.last ≡ (common_of w).last → c.verdicts ≡ raised (common_of w).verdicts v → l.first ≡ (lists_of w).first → l.old ≡ (lists_of w).old →
    set (arrived_words w c l) (11 + at) (get_or (arrived_words w c l) (11 + at) 0 + 1) ≡ common_words c l
arrived-words w c l v at e s t r f o = rw e (by-verdict w c l v s t r f o)

-- ── a departure ──

abbrev pub DepartureStays : (s t : State) → Type 0
DepartureStays s t =
    (t.common.settings ≡ s.common.settings)
    × (t.common.last ≡ s.common.last)
    × (t.common.store.used ≡ s.common.store.used)
    × (t.common.verdicts ≡ s.common.verdicts)

pub departure-stays : (s : State) (handles sizes : List ℕ) (clock : ℕ) (t : State) → t ≡ (departure s handles sizes clock).state →
    DepartureStays s t
unfolding departed_common
departure-stays s handles sizes clock t e =
    rw e
    (departure-cases (λ (r : Reply). DepartureStays s r.state) s handles sizes clock
    (λ n. (refl, refl, refl, refl))
    (refl, refl, refl, refl))

-- ── a tick ──

abbrev pub TickStays : (s t : State) → Type 0
TickStays s t =
    (t.common.settings ≡ s.common.settings)
    × (t.common.backlog ≡ s.common.backlog)
    × (t.common.store ≡ s.common.store)
    × (t.common.verdicts ≡ s.common.verdicts)

pub tick-stays : (s : State) (clock : ℕ) (t : State) → t ≡ (tick s clock).state → TickStays s t
tick-stays s clock t e =
    rw e
    (tick-cases (λ (r : Reply). TickStays s r.state) s clock
    (λ n. (refl, refl, refl, refl))
    (refl, refl, refl, refl))
